use Rattle.laws_existence.proofs.Askable.{given_is_askable as law}
use Rattle.laws_existence.proofs.laws.given_is_askable.Goals as goal

pub returns : goal.returns
returns c =
    let given = c.given_is_resolution.ensures in law c.reading_is_grammar.ensures.formula given.resolution given.begins
