use Rattle.std.proofs.Common.{◌≡◌, drop}
use Rattle.ul_specifier.specs.Meaning.{pins_of}
use Rattle.ul_specifier.proofs.clause.Specifiers.pins.Given as goal

abbrev pub invariant-loop-clause : goal.invariant-loop-clause
invariant-loop-clause l = pins_of l.clause-items l.version ≡ pins_of (drop l.clause-index l.clause-items) l.version
