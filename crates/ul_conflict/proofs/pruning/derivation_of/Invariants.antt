use Rattle.std.specs.Prelude.{◌≡◌, ◌++◌, length}
use Rattle.ul_conflict.specs.Pruned.{IsPrunedTo}
use Rattle.ul_conflict.proofs.pruning.derivation_of.Given as goal

abbrev pub invariant-loop : goal.invariant-loop
invariant-loop l = record {
  pruned : IsPrunedTo l.problem (l.held ++ l.learned) l.marks.items l.pruned;
  count : length l.pruned.numbers.items ≡ l.counter;
}
