use Rattle.std.proofs.Common.{◌≡◌, drop, ◌++◌}
use Rattle.ul_specifier.specs.Meaning.{lower_list}
use Rattle.ul_specifier.proofs.clause.Specifiers.lower_part.Given as goal

abbrev pub invariant-loop-clause : goal.invariant-loop-clause
invariant-loop-clause l = lower_list l.clause-items ≡ l.clauses.items ++ lower_list (drop l.clause-index l.clause-items)
