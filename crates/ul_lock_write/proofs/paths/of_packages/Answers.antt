use Rattle.std.proofs.Common.{sym}
use Rattle.ul_lock_write.specs.Markers.{package_markers}
use Rattle.ul_lock_write.proofs.OverPaths.{over_here, over_on, over_end}
use Rattle.ul_lock_write.proofs.paths.of_packages.Goals as goal

pub returns-in-Some : goal.returns-in-Some
returns-in-Some c = over_here package_markers c.args.packages.now c.loop-block.block-index c.block-item.result _ c.in-Some.count c.loop-block-test.true c.block-item.is (sym c.in-Some.ensures) c.loop-block.invariant

pub loop-block-preserved : goal.loop-block-preserved
loop-block-preserved c = over_on package_markers c.args.packages.now c.loop-block.block-index c.block-item.result _ c.loop-block-test.true c.block-item.is (sym c.in-None.ensures) c.loop-block.invariant

pub returns : goal.returns
returns c = over_end package_markers c.args.packages.now c.loop-block.block-index _ c.loop-block-test.false c.loop-block.invariant
