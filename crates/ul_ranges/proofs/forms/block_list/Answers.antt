use Rattle.std.proofs.Common.{arith, subst}
use Rattle.ul_ranges.specs.Forms.{IsForm}
use Rattle.ul_ranges.specs.declared.forms.Form.{Form}
use Rattle.ul_ranges.proofs.FormMaking.{ok_then, word_blocks}
use Rattle.ul_ranges.proofs.forms.block_list.Goals as goal

pub returns-in-Word : goal.returns-in-Word
returns-in-Word c =
    ok_then c.vec.result _ _ c.vec.ensures.items_if_clones_equal (λ v h. rw c.in-Word.is
    (word_blocks c.in-Word.size c.in-Word.word c.div_ceil.result v.items (subst (λ (f : Form). IsForm f) c.in-Word.is c.requires) (omega (arith, c.div_ceil.ensures)) (h (λ y e. e))))
