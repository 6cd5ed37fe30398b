use Rattle.std.proofs.Common.{ap, subst, sym, ◌∙◌}
use Rattle.ul_region.specs.Numbers.{fields_in}
use Rattle.ul_region.specs.Rows.{AreAsked}
use Rattle.ul_region.proofs.RowFacts.{numbered, linked}
use Rattle.ul_region.proofs.asking.asked_at.Goals as goal

pub returns-clause-asked : goal.returns-clause-asked
returns-clause-asked g c =
    let kept = c.as_slice.result.now in
    let asked = c.in_ok-asked.asked.items in
    let told = c.in_ok-asked.ensures in
    subst (AreAsked c.ask_all.new.algebra c.args.node.now c.ask_all.new.truths.marks.items c.args.requirements.now) (sym c.in_ok-list.ensures) (record {
      known = told.asked;
      same = told.same ∙ ap fields_in c.as_slice.ensures.value ∙ c.in_ok-kept.ensures;
      numbered = numbered (fields_in kept) asked told.same told.numbers;
      linked = linked (fields_in kept) asked told.same told.numbers told.next;
    })
