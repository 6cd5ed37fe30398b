use Rattle.ul_requirement.proofs.Runs.{inner-utf8}
use Rattle.ul_requirement.proofs.reading.clauses.Goals as goal

pub returns-in_default : goal.returns-in_default
returns-in_default c = absurd (c.in_default.ensures.cases.0 (inner-utf8 c.args.text.now c.requires))
