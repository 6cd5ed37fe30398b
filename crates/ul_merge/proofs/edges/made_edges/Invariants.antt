use Rattle.std.proofs.Common.{take}
use Rattle.ul_interner.specs.Known.{Knows}
use Rattle.ul_algebra.specs.Spelled.{tree_of}
use Rattle.ul_lock_write.specs.Markers.{edge_marker}
use Rattle.ul_merge.specs.Edges.{MakesEdge}
use Rattle.ul_merge.specs.Made.{AreMade}
use Rattle.ul_merge.specs.Over.{ItemsOrOver}
use Rattle.ul_merge.proofs.edges.made_edges.Given as goal

abbrev pub invariant-loop-group : goal.invariant-loop-group
invariant-loop-group g l = record {
  knows : Knows l.initial.algebra l.algebra;
  made : ItemsOrOver edge_marker (AreMade (MakesEdge l.regions l.truths (tree_of l.supported)) (take l.group-index l.groups)) l.edges;
}
