use Rattle.ul_requirement.proofs.Runs.{no_name}
use Rattle.ul_requirement.proofs.reading.name.Goals as goal

pub returns-in_default : goal.returns-in_default
returns-in_default c = no_name c.args.input.now c.in_default.ensures.cases.0
