-- How `lock`, `why` and `relock` end where their inputs are read.
use Rattle.std.specs.Prelude.{◌≡◌, ◌≢◌, ◌⊎◌, ◌++◌, ℕ, List, true, codes, Option, Ok, Some}
use Rattle.std.specs.Fmt.{decimal}
use Rattle.ul_files.specs.Files.{FileMap}
use Rattle.ul_comparison.specs.Worlds.{WorldFields, IsWorld}
use Rattle.ul_requirement.specs.declared.wish.Strategy.TheVariants.{Deep}
use Rattle.ul_tree.specs.Regions.{region_of}
use Rattle.ul_index.specs.Serves.{Selection}
use Rattle.ul_split.specs.Worlds.{ServesAt}
use Rattle.ul_generations.specs.Generations.{most_forks}
use Rattle.ul_forks.specs.Outcome.{starts_of}
use Rattle.ul_lock.specs.declared.parts.Lock.{Lock}
use Rattle.ul_inputs.specs.Inputs.{text_bytes}
use Rattle.ul_inputs.specs.Resolutions.{ResolutionFields, resolution_in}
use Rattle.ul_inputs.specs.Locks.{lock_at}
use Rattle.ul_commands.specs.Asked.{lock, relock, why}
use Rattle.ul_commands.specs.Questions.{question_of}
use Rattle.ul_program.specs.Answer.{IsAnswer}
use Rattle.ul_program.specs.Words.{question}

-- the line of a limit that is passed
abbrev pub limit_line : List ℕ → ℕ → List ℕ
limit_line name number = codes "limit: " ++ name ++ codes " " ++ decimal number ++ codes "\n"

-- one of three limits is told: on forks, on the paths of a marker, and on the bytes of a lock
abbrev pub TellsLimit : List ℕ → Type 0
TellsLimit text = (text ≡ limit_line (codes "forks") most_forks)
    ⊎ ((text ≡ limit_line (codes "marker-paths") 4096) ⊎ (text ≡ limit_line (codes "text-bytes") text_bytes))

-- the status is 0, or 1, or 4 with one of three lines
abbrev pub EndsByOne : ℕ → List ℕ → Type 0
EndsByOne status text = (status ≡ 0) ⊎ ((status ≡ 1) ⊎ ((status ≡ 4) × TellsLimit text))

-- so `lock` ends where the project file, the index folder and the old lock are read
abbrev pub LocksEnd : Type 0
LocksEnd = (words : List (List ℕ)) (m : FileMap) (status : ℕ) (text project folder : List ℕ) (workers : ℕ)
    (old : Option (List ℕ)) (r : ResolutionFields)
    → question words ≡ lock project folder workers old → (resolution_in project folder old m).gives (Ok r)
    → IsAnswer words m status text → EndsByOne status text

-- and so does `why`
abbrev pub ReasonsEnd : Type 0
ReasonsEnd = (words : List (List ℕ)) (m : FileMap) (status : ℕ) (text project folder : List ℕ) (workers : ℕ)
    (old : Option (List ℕ)) (r : ResolutionFields)
    → question words ≡ why project folder workers old → (resolution_in project folder old m).gives (Ok r)
    → IsAnswer words m status text → EndsByOne status text

-- and so does `relock`, where the old lock is read
abbrev pub RelocksEnd : Type 0
RelocksEnd = (words : List (List ℕ)) (m : FileMap) (status : ℕ) (text project folder old : List ℕ) (workers : ℕ) (l : Lock)
    (r : ResolutionFields)
    → question words ≡ relock project folder workers old
    → (lock_at old m).gives (Ok l) → (resolution_in project folder (Some old) m).gives (Ok r)
    → IsAnswer words m status text → EndsByOne status text

-- each world that the project supports has a selection that serves it
abbrev pub IsServedEverywhere : ResolutionFields → Type 0
IsServedEverywhere r = (w : WorldFields) → IsWorld w → region_of r.project.region w ≡ true
    → (s : Selection) × ServesAt r.catalog (starts_of (question_of r)) w s

-- under `deep` none of `lock`, `why` and `relock` refuses a fork then
pub record DeepRefusesNoFork : Type 0 where
  pub lock : (words : List (List ℕ)) (m : FileMap) (status : ℕ) (text project folder : List ℕ) (workers : ℕ)
      (old : Option (List ℕ)) (r : ResolutionFields)
      → question words ≡ lock project folder workers old → (resolution_in project folder old m).gives (Ok r)
      → r.wish.strategy ≡ Deep → IsServedEverywhere r → IsAnswer words m status text → status ≢ 1
  pub why : (words : List (List ℕ)) (m : FileMap) (status : ℕ) (text project folder : List ℕ) (workers : ℕ)
      (old : Option (List ℕ)) (r : ResolutionFields)
      → question words ≡ why project folder workers old → (resolution_in project folder old m).gives (Ok r)
      → r.wish.strategy ≡ Deep → IsServedEverywhere r → IsAnswer words m status text
      → (status ≡ 0) ⊎ (text ≡ limit_line (codes "forks") most_forks)
  pub relock : (words : List (List ℕ)) (m : FileMap) (status : ℕ) (text project folder old : List ℕ) (workers : ℕ) (l : Lock)
      (r : ResolutionFields)
      → question words ≡ relock project folder workers old
      → (lock_at old m).gives (Ok l) → (resolution_in project folder (Some old) m).gives (Ok r)
      → r.wish.strategy ≡ Deep → IsServedEverywhere r → IsAnswer words m status text → status ≢ 1
