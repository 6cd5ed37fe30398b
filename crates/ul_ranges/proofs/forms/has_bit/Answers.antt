use Rattle.std.proofs.Common.{sym, ◌∙◌}
use Rattle.ul_ranges.proofs.BlockLaws.{bit_read}
use Rattle.ul_ranges.proofs.FormLaws.{bit_within}
use Rattle.ul_ranges.proofs.forms.has_bit.Goals as goal

pub returns-then-k-lt64 : goal.returns-then-k-lt64
returns-then-k-lt64 c = bit_read c.args.word c.args.k ∙ sym (bit_within c.args.word c.args.k c.if-k-lt64.true)
