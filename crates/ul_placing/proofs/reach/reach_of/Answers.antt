use Rattle.std.proofs.Common.{◌≤◌, length, arith}
use Rattle.ul_region.specs.Truths.{region_at}
use Rattle.ul_placing.proofs.Reaching.{queue_within, reach_done}
use Rattle.ul_placing.proofs.reach.reach_of.Goals as goal

pub returns-then-step-len : goal.returns-then-step-len
returns-then-step-len c = let l : length c.loop-step.reach.queue.items ≤ c.loop-step.step = omega (arith, c.if-step-len.true, c.len.ensures, c.loop-step.reach.queue.ok) in
    reach_done (region_at c.args.place.now.region.now) c.args.prepared.now c.loop-step.step c.loop-step.reach l c.loop-step.invariant

pub unreachable-requires : goal.unreachable-requires
unreachable-requires c =
    let few = queue_within (region_at c.args.place.now.region.now) c.args.prepared.now c.loop-step.step c.loop-step.reach c.loop-step.invariant in
    omega (arith, few, c.loop-step.invariant.within, c.loop-step-test.false, c.args.prepared.now.nodes.ok)
