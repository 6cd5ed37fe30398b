use Rattle.std.proofs.Common.{map, take}
use Rattle.std.specs.Prelude.{All}
use Rattle.ul_region.specs.Truths.{IsGrown}
use Rattle.ul_prepared.specs.Gathered.{AreSameNodes, HasOwnRows}
use Rattle.ul_prepared.specs.Permitted.{IsSetOf}
use Rattle.ul_prepared.specs.Shared.{IsShared, releases_shared}
use Rattle.ul_prepared.proofs.planning.planned_nodes.Given as goal

abbrev pub invariant-loop-one : goal.invariant-loop-one
invariant-loop-one g l = record {
  grown : IsGrown l.initial.algebra l.initial.truths.marks.items l.algebra l.truths.marks.items;
  sets : All (IsSetOf l.names) l.sets.list.items;
  shared : All (IsShared l.algebra l.truths.marks.items) l.shared;
  same : AreSameNodes l.nodes.items (take l.one-index l.bare);
  rows : All (HasOwnRows l.algebra l.names l.bare l.truths.marks.items (map releases_shared l.shared)) l.nodes.items;
}
