use Rattle.ul_requirement.proofs.Spelled.{reading_is_grammar, spelled_once}
use Rattle.ul_requirement.proofs.laws.reading_is_grammar.Goals as goal

pub returns-clause-grammar : goal.returns-clause-grammar
returns-clause-grammar c = reading_is_grammar

pub returns-clause-once : goal.returns-clause-once
returns-clause-once c = spelled_once
