use Rattle.std.proofs.Common.{List, map, refl}
use Rattle.ul_merge.specs.Rows.{base_row, base_rows, member_of}
use Rattle.ul_merge.specs.declared.members.Member.{Member}
use Rattle.ul_merge.proofs.Walks.{walk_end, walk_more}
use Rattle.ul_merge.proofs.members.base_users.Goals as goal

pub loop-member-preserved : goal.loop-member-preserved
loop-member-preserved c =
    walk_more (λ (ms : List Member). base_rows (map member_of ms)) (λ (m : Member). base_row m.node.now.extra m.leaf) (λ m ms. refl) _ _ _ _ _ _ c.loop-member-test.true c.member-item.is c.in_ok-put_base.ensures c.loop-member.invariant

pub returns : goal.returns
returns c = walk_end (λ (ms : List Member). base_rows (map member_of ms)) refl c.args.members.now c.loop-member.member-index _ _ c.loop-member-test.false c.loop-member.invariant
