use Rattle.std.proofs.Common.{◌≡◌, take}
use Rattle.ul_groups.proofs.copies.copy_clauses.Given as goal

abbrev pub invariant-loop-clause : goal.invariant-loop-clause
invariant-loop-clause l = l.list.items ≡ take l.clause-index l.clauses
