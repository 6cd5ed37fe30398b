use Rattle.std.proofs.Common.{◌≡◌, All, length}
use Rattle.tests_threads.proofs.interner.shared.makers.Given as goal

abbrev pub invariant-loop : goal.invariant-loop
invariant-loop l = (l.pass.table ≡ l.interner) × (length l.all.items ≡ l.counter) × All (λ m. m.pass.table ≡ l.interner) l.all.items
