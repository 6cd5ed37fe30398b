use Rattle.std.specs.Prelude.{All}
use Rattle.ul_specifier.specs.Clauses.{IsClause}
use Rattle.tests_inputs.proofs.index.documents.exclusions.Given as goal

abbrev pub invariant-loop-text : goal.invariant-loop-text
invariant-loop-text l = All IsClause l.clauses.items
