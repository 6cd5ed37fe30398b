-- With which status `env` ends of a lock that is right for a project.
use Rattle.std.specs.Prelude.{◌≡◌, ◌≤◌, ◌↔◌, ℕ, List, Contains, length, true, Option, None, Some, Result, Ok}
use Rattle.ul_files.specs.Files.{FileMap, content}
use Rattle.ul_base.specs.Names.{is_name}
use Rattle.ul_comparison.specs.Atoms.{AtomFields}
use Rattle.ul_comparison.specs.Machines.{MachineFields, world_of}
use Rattle.ul_comparison.specs.Worlds.{WorldFields}
use Rattle.ul_project.specs.Fields.{ProjectFields}
use Rattle.ul_lock.specs.declared.parts.Lock.{Lock}
use Rattle.ul_lock_write.specs.Texts.{lock_text}
use Rattle.ul_filter.specs.Comparisons.{HasAll, lock_atoms}
use Rattle.ul_sound.specs.Leaves.{supported_by}
use Rattle.ul_sound.specs.Sound.{AreProjectExtras}
use Rattle.ul_inputs.specs.Inputs.{text_bytes}
use Rattle.ul_inputs.specs.Locks.{lock_at}
use Rattle.ul_inputs.specs.Machines.{machine_at}
use Rattle.ul_inputs.specs.Refused.{Refused}
use Rattle.ul_inputs.specs.Resolutions.{ResolutionFields, resolution_in}
use Rattle.ul_answers.specs.Answer.{Answer, locked, verified}
use Rattle.ul_answers.specs.Printed.{printed}
use Rattle.ul_lock_commands.specs.Words.{names_of}
use Rattle.ul_commands.specs.Asked.{env, lock, verify}
use Rattle.ul_commands.specs.Commands.{command}

-- each word is a name
abbrev pub WordsAreNames : List (List ℕ) → Type 0
WordsAreNames words = (word : List ℕ) → Contains words word → is_name word ≡ true

-- the status is 0, and so the answer neither `outside` nor `extra`, exactly where the project supports the world and
-- each word is a name
abbrev pub EndsRightly : ProjectFields → WorldFields → List (List ℕ) → ℕ → Type 0
EndsRightly p w words status = (status ≡ 0) ↔ ((supported_by p w ≡ true) × WordsAreNames words)

-- With extras of the project `env` ends rightly of what `lock` gave of some files and printed into a file, where a file
-- may be so long. In the machine's world the truth of the lock's comparisons or of more of them is known.
abbrev pub StatusesOfFiles : Type 0
StatusesOfFiles = (project folder : List ℕ) (old : Option (List ℕ)) (workers : ℕ) (path machine : List ℕ)
    (words : List (List ℕ)) (before now : FileMap) (r : ResolutionFields) (l : Lock) (forks : ℕ) (m : MachineFields)
    (a : Result Answer Refused) (comparisons : List AtomFields)
    → (resolution_in project folder old before).gives (Ok r)
    → (command (lock project folder workers old) before).gives (Ok (locked l forks))
    → content now path ≡ Some (lock_text l) → length (lock_text l) ≤ text_bytes → (machine_at machine now).gives (Ok m)
    → HasAll comparisons (lock_atoms l) → AreProjectExtras r.project (names_of words)
    → (command (env path machine words) now).gives a
    → EndsRightly r.project (world_of m comparisons) words (printed a).0

-- so it does of a lock file that `verify` accepted, beside a machine file
abbrev pub StatusesOfVerifiedFiles : Type 0
StatusesOfVerifiedFiles = (project folder path machine : List ℕ) (words : List (List ℕ)) (m : FileMap)
    (r : ResolutionFields) (l : Lock) (x : MachineFields) (a : Result Answer Refused) (comparisons : List AtomFields)
    → (resolution_in project folder None m).gives (Ok r) → (lock_at path m).gives (Ok l)
    → (machine_at machine m).gives (Ok x)
    → (command (verify project folder path) m).gives (Ok verified)
    → HasAll comparisons (lock_atoms l) → AreProjectExtras r.project (names_of words)
    → (command (env path machine words) m).gives a
    → EndsRightly r.project (world_of x comparisons) words (printed a).0
