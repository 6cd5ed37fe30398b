-- The answer to what is asked, and the files that are read for it: one case for each command.
use Rattle.std.specs.Prelude.{Ok}
use Rattle.ul_inputs.specs.Inputs.{Input, ◌>>=◌, answer, just}
use Rattle.ul_inputs.specs.Locks.{lock_at}
use Rattle.ul_inputs.specs.Projects.{project_at}
use Rattle.ul_inputs.specs.Resolutions.{resolution_in}
use Rattle.ul_answers.specs.Answer as answers
use Rattle.ul_lock_commands.specs.Environments.{env_on}
use Rattle.ul_lock_commands.specs.Exports.{IsExportAnswer}
use Rattle.ul_commands.specs.Asked.{Asked, usage, lock, why, relock, gen, env, export, marker, check, verify}
use Rattle.ul_commands.specs.Checking.{check_on}
use Rattle.ul_commands.specs.Generating.{gen_said}
use Rattle.ul_commands.specs.Locking.{lock_of}
use Rattle.ul_commands.specs.Markers.{markers_at}
use Rattle.ul_commands.specs.Reasons.{IsWhyAnswer}
use Rattle.ul_commands.specs.Relocking.{relock_of}
use Rattle.ul_commands.specs.Verifying.{verify_on}

-- the answer to what is asked; the number of workers isn't looked at
abbrev pub command : Asked → Input answers.Answer
command usage = just (Ok answers.usage)
command (lock project folder workers old) = lock_of project folder old
command (why project folder workers old) = resolution_in project folder old >>= λ r. answer (IsWhyAnswer r)
command (relock project folder workers old) = relock_of project folder old
command (gen seed size workers) = gen_said seed size
command (env path machine words) = lock_at path >>= env_on machine words
command (export path words) = lock_at path >>= λ l. answer (IsExportAnswer l words)
command (marker path) = markers_at path
command (check project folder derivation) = project_at project >>= check_on folder derivation
command (verify project folder path) = project_at project >>= verify_on folder path
