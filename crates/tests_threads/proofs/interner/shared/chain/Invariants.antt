use Rattle.std.proofs.Common.{◌≡◌}
use Rattle.ul_interner.specs.Known.{Known}
use Rattle.tests_threads.proofs.interner.shared.chain.Given as goal

abbrev pub invariant-loop-number : goal.invariant-loop-number
invariant-loop-number g l = (l.pass.table ≡ l.interner) × Known l.pass l.mark
