use Rattle.std.proofs.Common.{sym, subst}
use Rattle.std.specs.Prelude.{All}
use Rattle.std.proofs.lemmas.List.Elements.{All-push}
use Rattle.ul_specifier.specs.Clauses.{IsClause}
use Rattle.tests_inputs.proofs.index.documents.with_clause.Goals as goal

pub returns : goal.returns
returns c = subst (All IsClause) (sym c.in_ok-push.ensures.items) (All-push IsClause c.args.clauses.items c.args.clause c.requires.clauses c.requires.clause)
