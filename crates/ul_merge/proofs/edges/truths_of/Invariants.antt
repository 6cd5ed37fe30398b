use Rattle.std.proofs.Common.{map, take}
use Rattle.ul_interner.specs.Known.{Knows}
use Rattle.ul_merge.specs.Edges.{AreTruths}
use Rattle.ul_merge.proofs.edges.truths_of.Given as goal

abbrev pub invariant-loop-one : goal.invariant-loop-one
invariant-loop-one g l = record {
  knows : Knows l.initial.algebra l.algebra;
  truths : AreTruths l.algebra l.node (map (λ q. q.now) (take l.one-index l.requirements)) l.truths.items;
}
