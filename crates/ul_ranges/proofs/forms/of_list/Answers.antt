use Rattle.ul_ranges.proofs.FormMaking.{word_members, marked_exact}
use Rattle.ul_ranges.proofs.forms.of_list.Goals as goal

pub blocks_of-requires : goal.blocks_of-requires
blocks_of-requires c = rw c.as_slice.ensures.value c.requires

pub sealed-requires-clause-exact : goal.sealed-requires-clause-exact
sealed-requires-clause-exact c = marked_exact c.args.size _ _ c.requires (rw c.as_slice.ensures.value at c.in_ok-blocks.ensures)

pub returns-then-size-le64 : goal.returns-then-size-le64
returns-then-size-le64 c = word_members c.args.size _ _ c.if-size-le64.true c.requires c.word_of.ensures
