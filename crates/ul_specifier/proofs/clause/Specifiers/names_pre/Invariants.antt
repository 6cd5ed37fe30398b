use Rattle.std.proofs.Common.{◌≡◌, drop}
use Rattle.ul_specifier.specs.Meaning.{names_pre_of}
use Rattle.ul_specifier.proofs.clause.Specifiers.names_pre.Given as goal

abbrev pub invariant-loop-clause : goal.invariant-loop-clause
invariant-loop-clause l = names_pre_of l.clause-items ≡ names_pre_of (drop l.clause-index l.clause-items)
