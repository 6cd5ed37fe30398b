use Rattle.std.proofs.Common.{◌+◌, ◌-◌, ◌*◌, ◌≤◌, drop, length}
use Rattle.ul_tree.specs.Fans.{parts_of}
use Rattle.ul_nodes.specs.Keys.{level_view}
use Rattle.ul_marker_text.specs.Nodes.{parts_view, KeepFirst}
use Rattle.ul_marker_text.specs.StepViews.{fan_from}
use Rattle.ul_marker_text.proofs.building.+build.Given as goal

abbrev pub decreases-build : goal.decreases-build
decreases-build l = 2 * l.room

abbrev pub decreases-parts : goal.decreases-parts
decreases-parts l = 2 * l.room + 1

abbrev pub invariant-parts-loop-from : goal.invariant-parts-loop-from
invariant-parts-loop-from l = record {
  within : l.from ≤ length l.paths;
  kept : KeepFirst (level_view l.level) (parts_of (fan_from l.place l.paths)) (parts_view l.made.items) (parts_of (fan_from l.place (drop l.from l.paths)));
}

abbrev pub decreases-parts-loop-from : goal.decreases-parts-loop-from
decreases-parts-loop-from l = length l.paths - l.from
