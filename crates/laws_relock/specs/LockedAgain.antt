-- `lock` gives a lock of one fork again, where it is the old lock.
use Rattle.std.specs.Prelude.{◌≡◌, ◌≤◌, ℕ, List, [], length, Option, None, Some, Ok}
use Rattle.ul_files.specs.Files.{FileMap, content}
use Rattle.ul_lock.specs.declared.parts.Lock.{Lock}
use Rattle.ul_lock_write.specs.Texts.{lock_text}
use Rattle.ul_inputs.specs.Inputs.{text_bytes}
use Rattle.ul_inputs.specs.Resolutions.{ResolutionFields, resolution_in}
use Rattle.ul_answers.specs.Answer.{locked}
use Rattle.ul_commands.specs.Locking.{lock_of}
use Rattle.laws_frames.specs.Frames.{AgreeOn}
use Rattle.laws_relock.specs.Again.{LevelAreEqual}

-- so `lock` with it as the old lock gives it again, beside files that have the same at the paths which are read for the
-- project and the index
abbrev pub LocksAreLockedAgain : Type 0
LocksAreLockedAgain = (project folder path : List ℕ) (old : Option (List ℕ)) (before now : FileMap) (l : Lock)
    (forks : ℕ)
    → AgreeOn (resolution_in project folder None before).reads before now
    → ((r : ResolutionFields) → (resolution_in project folder None before).gives (Ok r) → LevelAreEqual r.catalog)
    → (lock_of project folder old before).gives (Ok (locked l forks)) → l.forks ≡ []
    → content now path ≡ Some (lock_text l) → length (lock_text l) ≤ text_bytes
    → (lock_of project folder (Some path) now).gives (Ok (locked l forks))
