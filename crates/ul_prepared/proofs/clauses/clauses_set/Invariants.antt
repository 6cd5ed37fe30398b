use Rattle.std.proofs.Common.{◌≡◌, map, take}
use Rattle.ul_specifier.specs.Meaning.{meets_list}
use Rattle.ul_prepared.proofs.clauses.clauses_set.Given as goal

abbrev pub invariant-loop-clause : goal.invariant-loop-clause
invariant-loop-clause l = l.set ≡ map (meets_list (take l.clause-index l.clauses)) l.versions
