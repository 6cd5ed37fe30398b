use Rattle.std.proofs.Common.{◌≡◌, length}
use Rattle.std.specs.Prelude.{All}
use Rattle.ul_interner.specs.Known.{Knows}
use Rattle.ul_algebra.specs.Answers.{IsDiagram}
use Rattle.ul_region.proofs.TruthFacts.{MeetsEach}
use Rattle.ul_region.proofs.in_region.InRegion.of.Given as goal

abbrev pub invariant-loop-truth : goal.invariant-loop-truth
invariant-loop-truth g l = record {
  knows : Knows l.initial.algebra l.algebra;
  size : length l.within.items ≡ l.truth-index;
  known : All (IsDiagram l.algebra) l.within.items;
  meets : MeetsEach l.region l.truths l.within.items;
}
