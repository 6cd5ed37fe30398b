-- Which opaque comparisons the locks ask that `lock` prints.
use Rattle.std.specs.Prelude.{◌≡◌, ℕ, List, Option, Ok}
use Rattle.ul_files.specs.Files.{FileMap}
use Rattle.ul_lock.specs.declared.parts.Lock.{Lock}
use Rattle.ul_lock_write.specs.Texts.{lock_text}
use Rattle.ul_filter.specs.Comparisons.{HasAll, lock_atoms}
use Rattle.ul_inputs.specs.Resolutions.{ResolutionFields, resolution_in}
use Rattle.ul_commands.specs.Asked.{lock}
use Rattle.laws_comparisons.specs.Comparisons.{asked_atoms}
use Rattle.ul_program.specs.Answer.{IsAnswer}
use Rattle.ul_program.specs.Words.{question}

-- the bytes are those of a lock that asks what the project and its documents ask, and nothing else
pub record AsksTheirs (r : ResolutionFields) (bytes : List ℕ) : Type 0 where
  pub lock : Lock
  pub is : bytes ≡ lock_text lock
  pub asks : HasAll (asked_atoms r.project r.catalog) (lock_atoms lock)

-- what `lock` prints with status 0 is such a lock, so in a world in which the truth of what the project and its documents ask
-- is known, that of each of the lock's comparisons is
abbrev pub LocksAskTheirs : Type 0
LocksAskTheirs = (words : List (List ℕ)) (m : FileMap) (bytes project folder : List ℕ) (workers : ℕ) (old : Option (List ℕ))
    (r : ResolutionFields)
    → question words ≡ lock project folder workers old → IsAnswer words m 0 bytes
    → (resolution_in project folder old m).gives (Ok r) → AsksTheirs r bytes
