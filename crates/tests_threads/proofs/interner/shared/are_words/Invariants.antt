use Rattle.std.proofs.Common.{◌≡◌}
use Rattle.tests_threads.proofs.interner.shared.are_words.Given as goal

abbrev pub invariant-loop-item : goal.invariant-loop-item
invariant-loop-item g l = l.pass.table ≡ l.initial.pass.table
