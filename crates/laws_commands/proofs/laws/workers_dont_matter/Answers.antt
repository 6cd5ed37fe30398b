use Rattle.laws_commands.proofs.Workers.{workers_dont_matter as law}
use Rattle.laws_commands.proofs.laws.workers_dont_matter.Goals as goal

pub returns : goal.returns
returns c = law
