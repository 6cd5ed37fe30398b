use Rattle.std.proofs.Common.{◌≡◌, [], None, drop}
use Rattle.std.specs.Prelude.{All}
use Rattle.ul_comparison.specs.Atoms.{IsAtom}
use Rattle.ul_comparison.specs.Machines.{truths_onto}
use Rattle.ul_comparison.specs.Worlds.{Rise}
use Rattle.ul_comparison.proofs.machine_truth.truths_on.Given as goal

abbrev pub invariant-loop-atom : goal.invariant-loop-atom
invariant-loop-atom l = record {
  truths : truths_onto l.machine l.truths.items (drop l.atom-index l.atoms) ≡ truths_onto l.machine [] l.atoms;
  rising : Rise None l.truths.items;
  all : All IsAtom l.truths.items;
}
