use Rattle.std.proofs.Common.{arith, []}
use Rattle.std.specs.Prelude.{◌<◌}
use Rattle.std.proofs.lemmas.List.Elements.{All-nil, All-cons}
use Rattle.ul_ranges.proofs.FormMaking.{pow_word, word_members}
use Rattle.ul_ranges.proofs.forms.one.Goals as goal

pub returns-then-size-le64 : goal.returns-then-size-le64
returns-then-size-le64 c =
    word_members c.args.size _ _ c.if-size-le64.true (All-cons (λ m. m < c.args.size) c.args.member [] c.requires (All-nil (λ m. m < c.args.size)))
    (pow_word c.args.member (omega arith))
