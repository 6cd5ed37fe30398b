use Rattle.std.specs.Prelude.{◌<◌}
use Rattle.std.proofs.lemmas.List.Elements.{All-nil}
use Rattle.ul_ranges.proofs.FormMaking.{unmarked_word, word_members}
use Rattle.ul_ranges.proofs.forms.none.Goals as goal

pub returns-then-size-le64 : goal.returns-then-size-le64
returns-then-size-le64 c = word_members c.args.size 0 _ c.if-size-le64.true (All-nil (λ m. m < c.args.size)) unmarked_word
