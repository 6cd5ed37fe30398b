use Rattle.std.proofs.Common.{◌≡◌}
use Rattle.tests_threads.proofs.interner.shared.make_all.Given as goal

abbrev pub invariant-loop-number : goal.invariant-loop-number
invariant-loop-number g l = l.maker.pass.table ≡ l.interner
