use Rattle.std.proofs.Common.{◌≡◌}
use Rattle.tests_threads.proofs.interner.shared.leaf_goes_to_shard_of_hash.Given as goal

abbrev pub invariant-loop-number : goal.invariant-loop-number
invariant-loop-number g l = l.pass.table ≡ l.initial.pass.table
