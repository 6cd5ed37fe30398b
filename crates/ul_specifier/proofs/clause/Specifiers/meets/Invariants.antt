use Rattle.std.proofs.Common.{◌≡◌, drop}
use Rattle.ul_specifier.specs.Meaning.{meets_list}
use Rattle.ul_specifier.proofs.clause.Specifiers.meets.Given as goal

abbrev pub invariant-loop-clause : goal.invariant-loop-clause
invariant-loop-clause l = meets_list l.clause-items l.version ≡ meets_list (drop l.clause-index l.clause-items) l.version
