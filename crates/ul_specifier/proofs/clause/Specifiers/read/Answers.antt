use Rattle.std.proofs.Common.{rules}
use Rattle.ul_specifier.specs.Reading.{specifiers_of}
use Rattle.ul_specifier.proofs.Texts.{specifiers-clauses}
use Rattle.ul_specifier.proofs.clause.Specifiers.read.Goals as goal

pub invariant_of-result : goal.invariant_of-result
unfolding specifiers_of
invariant_of-result c = specifiers-clauses c.args.text.now c.in_ok-clauses.clauses.items (search rules)

pub returns-clause-valid : goal.returns-clause-valid
returns-clause-valid c = invariant_of-result c
