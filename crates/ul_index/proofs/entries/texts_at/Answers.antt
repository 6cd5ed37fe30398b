use Rattle.ul_index.specs.Answers.{values_view}
use Rattle.ul_index.proofs.EachRead.{texts_fail, texts_then}
use Rattle.ul_index.proofs.entries.texts_at.Goals as goal

pub returns-then-not-are_texts : goal.returns-then-not-are_texts
returns-then-not-are_texts c =
    rw c.in_ok-items.ensures (texts_fail c.args.place (values_view c.in_ok-items.items) c.if-not-are_texts.ensures)

pub returns : goal.returns
returns c =
    rw c.in_ok-items.ensures (texts_then c.args.place (values_view c.in_ok-items.items) c.if-not-are_texts.ensures)
