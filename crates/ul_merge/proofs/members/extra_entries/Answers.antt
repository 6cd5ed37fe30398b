use Rattle.std.proofs.Common.{List, map, refl}
use Rattle.ul_merge.specs.Rows.{extra_row, extra_rows, member_of}
use Rattle.ul_merge.specs.declared.members.Member.{Member}
use Rattle.ul_merge.proofs.Walks.{walk_end, walk_more}
use Rattle.ul_merge.proofs.members.extra_entries.Goals as goal

pub loop-member-preserved : goal.loop-member-preserved
loop-member-preserved c =
    walk_more (λ (ms : List Member). extra_rows (map member_of ms)) (λ (m : Member). extra_row m.node.now.extra m.leaf) (λ m ms. refl) _ _ _ _ _ _ c.loop-member-test.true c.member-item.is c.in_ok-put_extra.ensures c.loop-member.invariant

pub returns : goal.returns
returns c = walk_end (λ (ms : List Member). extra_rows (map member_of ms)) refl c.args.members.now c.loop-member.member-index _ _ c.loop-member-test.false c.loop-member.invariant
