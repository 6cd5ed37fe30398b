use Rattle.laws_comparisons.proofs.Machines.{files_say_machines, machines_have_worlds as law}
use Rattle.laws_comparisons.proofs.laws.machines_have_worlds.Goals as goal

pub returns-clause-files : goal.returns-clause-files
returns-clause-files c = files_say_machines

pub returns-clause-worlds : goal.returns-clause-worlds
returns-clause-worlds c = law
