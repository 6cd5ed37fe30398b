use Rattle.std.specs.Prelude.{All, Contains}
use Rattle.std.specs.List.Sorted.{IsSorted}
use Rattle.ul_base.specs.Nodes.{node_cmp}
use Rattle.ul_problem.specs.Problems.{Increases}
use Rattle.ul_prepared.specs.Gathered.{IsNamedBy, IsPlacedNode}
use Rattle.ul_prepared.specs.Places.{IsOneOf}
use Rattle.ul_prepared.specs.Prepared.{PlannedBefore}
use Rattle.ul_prepared.proofs.BareNodes.{ArePutOrLeft, LeftFrom}
use Rattle.ul_prepared.proofs.gathering.bare_nodes.Given as goal

abbrev pub invariant-loop-node : goal.invariant-loop-node
invariant-loop-node l = record {
  increasing : Increases PlannedBefore l.bare.items;
  named : All (IsNamedBy l.places) l.bare.items;
  only : All (IsOneOf l.fn.nodes.items) l.bare.items;
  placed : All (IsPlacedNode l.places) l.node-iterator.rest.items;
  those : All (Contains l.fn.nodes.items) l.node-iterator.rest.items;
  put : ArePutOrLeft l.fn.nodes.items l.bare.items l.node-iterator.rest.items;
  sorted : IsSorted node_cmp l.node-iterator.rest.items;
  from : LeftFrom l.bare.items l.node-iterator.rest.items;
}
