-- An old lock does no harm.
use Rattle.std.specs.Prelude.{◌≡◌, ℕ, List, None, Result, Ok}
use Rattle.ul_files.specs.Files.{FileMap}
use Rattle.ul_lock.specs.declared.parts.Lock.{Lock}
use Rattle.ul_inputs.specs.Locks.{lock_at}
use Rattle.ul_inputs.specs.Refused.{Refused}
use Rattle.ul_answers.specs.Answer.{Answer}
use Rattle.ul_answers.specs.Printed.{printed}
use Rattle.ul_commands.specs.Locking.{lock_of}
use Rattle.ul_commands.specs.Relocking.{relock_of}

-- where the old lock is read and `lock` without one ends with status 0, so does `relock`
abbrev pub OldLocksAreHarmless : Type 0
OldLocksAreHarmless = (project folder old : List ℕ) (m : FileMap) (l : Lock) (a b : Result Answer Refused)
    → (lock_at old m).gives (Ok l) → (lock_of project folder None m).gives b → (printed b).0 ≡ 0
    → (relock_of project folder old m).gives a → (printed a).0 ≡ 0

-- where `relock` ends with status 1, its answer is that of `lock` without an old lock
abbrev pub RefusalsAreAnew : Type 0
RefusalsAreAnew = (project folder old : List ℕ) (m : FileMap) (a : Result Answer Refused)
    → (relock_of project folder old m).gives a → (printed a).0 ≡ 1 → (lock_of project folder None m).gives a
