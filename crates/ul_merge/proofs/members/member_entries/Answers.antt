use Rattle.std.proofs.Common.{refl}
use Rattle.ul_merge.specs.Rows.{all_members, leaf_members}
use Rattle.ul_merge.proofs.Walks.{walk_on}
use Rattle.ul_merge.proofs.members.member_entries.Goals as goal

pub loop-leaf-preserved : goal.loop-leaf-preserved
loop-leaf-preserved c = walk_on all_members (λ i s. leaf_members i s s) (λ i s ss. refl) _ _ _ _ _ _ c.loop-leaf-test.true c.index-choices-leaf.is c.in_ok-put_members.ensures c.loop-leaf.invariant
