use Rattle.laws_given.proofs.Said.{said_is_project as law}
use Rattle.laws_given.proofs.laws.said_is_project.Goals as goal

pub returns : goal.returns
returns c = law c.reading_is_grammar.ensures.formula
