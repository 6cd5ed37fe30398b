use Rattle.ul_commands.proofs.Served.{locks_are_of_leaves, locks_are_sound}
use Rattle.ul_commands.proofs.Written.{locks_are_printable}
use Rattle.ul_commands.proofs.laws.locks_are_sound.Goals as goal

pub returns-clause-sound : goal.returns-clause-sound
returns-clause-sound c = locks_are_sound c.fork_laws.ensures c.merge_laws.ensures

pub returns-clause-leaves : goal.returns-clause-leaves
returns-clause-leaves c = locks_are_of_leaves c.fork_laws.ensures

pub returns-clause-printable : goal.returns-clause-printable
returns-clause-printable c = locks_are_printable
