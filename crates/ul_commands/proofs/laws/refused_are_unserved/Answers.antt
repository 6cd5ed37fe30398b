use Rattle.ul_commands.proofs.Served.{forks_are_unserved, refused_are_unserved}
use Rattle.ul_commands.proofs.laws.refused_are_unserved.Goals as goal

pub returns-clause-answers : goal.returns-clause-answers
returns-clause-answers c = refused_are_unserved c.fork_laws.ensures c.has_world.ensures c.no_extra.ensures

pub returns-clause-forks : goal.returns-clause-forks
returns-clause-forks c = forks_are_unserved c.fork_laws.ensures c.has_world.ensures c.no_extra.ensures
