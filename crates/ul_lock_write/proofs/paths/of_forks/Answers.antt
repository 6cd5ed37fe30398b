use Rattle.std.proofs.Common.{sym, ◌∙◌}
use Rattle.ul_lock_write.specs.Markers.{fork_marker}
use Rattle.ul_lock_write.proofs.OverPaths.{over_one, over_here, over_on, over_end}
use Rattle.ul_lock_write.proofs.paths.of_forks.Goals as goal

pub returns-in-Some : goal.returns-in-Some
returns-in-Some c = over_here fork_marker c.args.forks.now c.loop-fork.fork-index c.fork-item.result _ c.in-Some.count c.loop-fork-test.true c.fork-item.is (over_one _ ∙ sym c.in-Some.ensures) c.loop-fork.invariant

pub loop-fork-preserved : goal.loop-fork-preserved
loop-fork-preserved c = over_on fork_marker c.args.forks.now c.loop-fork.fork-index c.fork-item.result _ c.loop-fork-test.true c.fork-item.is (over_one _ ∙ sym c.in-None.ensures) c.loop-fork.invariant

pub returns : goal.returns
returns c = over_end fork_marker c.args.forks.now c.loop-fork.fork-index _ c.loop-fork-test.false c.loop-fork.invariant
