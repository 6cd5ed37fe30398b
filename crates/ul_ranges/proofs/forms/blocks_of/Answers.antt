use Rattle.std.proofs.Common.{◌<◌, arith, get_or, length}
use Rattle.std.proofs.lemmas.List.{take_more, take_all}
use Rattle.ul_ranges.proofs.BlockLaws.{unmarked, marked}
use Rattle.ul_ranges.proofs.forms.blocks_of.Goals as goal

pub loop-member-init : goal.loop-member-init
loop-member-init c =
    unmarked c.args.size _ c.div_ceil.result (omega (arith, c.div_ceil.ensures)) (c.in_ok-blocks.ensures.items_if_clones_equal (λ y e. e))

pub loop-member-preserved : goal.loop-member-preserved
loop-member-preserved c =
    let inside : c.loop-member.member-index < length c.args.members.now = c.loop-member-test.true in
    let small : get_or c.args.members.now c.loop-member.member-index 0 < c.args.size = c.requires c.loop-member.member-index 0 inside in
    rw (take_more c.args.members.now c.loop-member.member-index 0 inside)
    (marked c.args.size _ _ _ c.index_mut.result.now small c.loop-member.invariant c.index_mut.ensures.value)

pub returns : goal.returns
returns c = rw (take_all c.loop-member.member-index c.args.members.now (omega arith)) at c.loop-member.invariant
