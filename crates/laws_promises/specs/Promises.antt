-- What the program promises, over the words, the files, a status and the bytes that are printed. `IsAnswer words m status
-- bytes` says that a status and bytes are an answer to the words on the files; by its headline `run` gives no others.
use Rattle.std.specs.Prelude.{◌≡◌, ◌≤◌, ◌↔◌, ℕ, List, ◌++◌, All, Bool, true, codes, length, Option, Some, None, Ok}
use Rattle.ul_files.specs.Files.{FileMap, content}
use Rattle.ul_version.specs.Fields.{Fields}
use Rattle.ul_comparison.specs.Atoms.{AtomFields, IsAtom}
use Rattle.ul_comparison.specs.Machines.{MachineFields, world_of}
use Rattle.ul_comparison.specs.Worlds.{IsWorld, WorldFields}
use Rattle.ul_nodes.specs.Plain.{Plain}
use Rattle.ul_tree.specs.Regions.{IsRegionTree, region_of}
use Rattle.ul_index.specs.Serves.{Selection, Serves}
use Rattle.ul_region.specs.Best.{IsBest}
use Rattle.ul_generations.specs.Generations.{refused_at}
use Rattle.ul_forks.specs.Headline.{IsAnswer as IsForkAnswer, TreeAnswer, TreeRefusal}
use Rattle.ul_forks.specs.Outcome.{IsOutcome, TreeOutcome, starts_of}
use Rattle.ul_lock.specs.declared.parts.Lock.{Lock}
use Rattle.ul_lock_write.specs.Texts.{lock_text}
use Rattle.ul_lock.specs.WellFormed.{IsWellFormed}
use Rattle.ul_filter.specs.Comparisons.{lock_atoms}
use Rattle.ul_sound.specs.Sound.{AreProjectExtras, IsEligible, IsSound}
use Rattle.ul_report.specs.Texts.{refusal_text}
use Rattle.ul_report_read.specs.declared.proof.Proof.{Proof}
use Rattle.ul_inputs.specs.Inputs.{text_bytes}
use Rattle.ul_inputs.specs.Locks.{lock_at}
use Rattle.ul_inputs.specs.Machines.{machine_at}
use Rattle.ul_inputs.specs.Resolutions.{ResolutionFields, resolution_in}
use Rattle.laws_frames.specs.Frames.{AgreeOn}
use Rattle.ul_lock_commands.specs.Words.{names_of}
use Rattle.ul_commands.specs.Asked.{check, env, lock, verify, why}
use Rattle.ul_commands.specs.Checking.{proof_at}
use Rattle.ul_commands.specs.Laws.{IsUnserved}
use Rattle.ul_commands.specs.Locking.{AreCoreLines}
use Rattle.ul_commands.specs.Questions.{IsForked, question_of}
use Rattle.ul_commands.specs.Reasons.{AreStepsOf}
use Rattle.laws_commands.specs.Environments.{IsRequired, IsSpelled, ListsExactly}
use Rattle.laws_commands.specs.Reasons.{reason_text}
use Rattle.laws_commands.specs.Statuses.{EndsRightly}
use Rattle.laws_commands.specs.Workers.{with_workers}
use Rattle.ul_program.specs.Answer.{IsAnswer}
use Rattle.ul_program.specs.Words.{question}

-- ---- `lock` with status 0

-- the bytes are the text of a well formed lock that is right, for what the files give, in every world that the project
-- supports
pub record IsSoundText (project folder : List ℕ) (old : Option (List ℕ)) (m : FileMap) (bytes : List ℕ) : Type 0 where
  pub resolution : ResolutionFields
  pub given : (resolution_in project folder old m).gives (Ok resolution)
  pub lock : Lock
  pub is : bytes ≡ lock_text lock
  pub well_formed : IsWellFormed lock
  pub sound : IsSound resolution.catalog resolution.project lock

-- what `lock` prints with status 0 is such a text
abbrev pub LocksAreRight : Type 0
LocksAreRight = (words : List (List ℕ)) (m : FileMap) (bytes project folder : List ℕ) (workers : ℕ) (old : Option (List ℕ))
    → question words ≡ lock project folder workers old → IsAnswer words m 0 bytes
    → IsSoundText project folder old m bytes

-- put into a file, where what is read for the project and the index folder stays, it is verified; the file may be the one
-- that the old lock was read of
abbrev pub PrintedAreVerified : Type 0
PrintedAreVerified = (words others : List (List ℕ)) (before now : FileMap) (bytes project folder path : List ℕ) (workers : ℕ)
    (old : Option (List ℕ))
    → question words ≡ lock project folder workers old → question others ≡ verify project folder path
    → IsAnswer words before 0 bytes → AgreeOn (resolution_in project folder None before).reads before now
    → content now path ≡ Some bytes → IsAnswer others now 0 (codes "verified\n")

-- a machine's world, with the truth of a lock's comparisons and of others, such as all that the project and its documents
-- ask
abbrev pub world_with : Lock → MachineFields → List AtomFields → WorldFields
world_with l x others = world_of x (lock_atoms l ++ others)

-- What is right to answer of a lock in the world of a machine, with words for extras of the project: status 0 exactly where
-- the project supports the world and each word is a name; and with it the lines of exactly what is required there.
pub record AnswersRightly (CanBeChosen : List ℕ → Fields → Type 0) (r : ResolutionFields) (l : Lock) (x : MachineFields)
    (others : List AtomFields) (words : List (List ℕ)) (status : ℕ) (text : List ℕ) : Type 0 where
  pub ends : EndsRightly r.project (world_with l x others) words status
  pub lists : status ≡ 0 → All IsAtom others
      → ListsExactly CanBeChosen (IsRequired r l (world_with l x others) (names_of words)) text

-- the bytes of a lock, and what is right to answer of it on a machine, whichever comparisons its world is taken with beside
-- the lock's
pub record IsRightEnvironment (r : ResolutionFields) (x : MachineFields) (words : List (List ℕ)) (bytes : List ℕ) (status : ℕ)
    (text : List ℕ) : Type 0 where
  pub lock : Lock
  pub is : bytes ≡ lock_text lock
  pub right : (others : List AtomFields) → AreProjectExtras r.project (names_of words)
      → AnswersRightly (IsSpelled r.catalog) r lock x others words status text

-- of a file into which `lock` printed, `env` with names of the project's extras ends with status 0 exactly where the
-- project supports the machine's world, and then lists exactly what it requires there
abbrev pub EnvironmentsAreRight : Type 0
EnvironmentsAreRight = (words others : List (List ℕ)) (before now : FileMap) (bytes text project folder : List ℕ)
    (status workers : ℕ) (old : Option (List ℕ)) (path machine : List ℕ) (extras : List (List ℕ)) (r : ResolutionFields)
    (x : MachineFields)
    → question words ≡ lock project folder workers old → question others ≡ env path machine extras
    → IsAnswer words before 0 bytes → content now path ≡ Some bytes → IsAnswer others now status text
    → (resolution_in project folder old before).gives (Ok r) → (machine_at machine now).gives (Ok x)
    → IsRightEnvironment r x extras bytes status text

-- ---- `lock` and `why` with status 1

-- the fork is the answer to what files give: of the first generation that has a fork which no selection serves, the first in
-- path order; and its region lies in the one that the project supports
pub record IsFirstRefused (r : ResolutionFields) (path : List Bool) (region : Plain) : Type 0 where
  pub fork : TreeRefusal
  pub at : fork.path ≡ path
  pub of : fork.region ≡ region
  pub first : IsForked r (refused_at fork)
  pub inside : (w : WorldFields) → IsWorld w → region_of region w ≡ true → region_of r.project.region w ≡ true

-- the bytes are those of the first fork with a world, which no selection serves, and under `deep` none at a single world of it; and
-- behind it stand the lines of its core
pub record TellsCore (project folder : List ℕ) (old : Option (List ℕ)) (m : FileMap) (bytes : List ℕ) : Type 0 where
  pub resolution : ResolutionFields
  pub given : (resolution_in project folder old m).gives (Ok resolution)
  pub path : List Bool
  pub region : Plain
  pub core : List ℕ
  pub is : bytes ≡ refusal_text path region ++ core
  pub lines : AreCoreLines resolution region core
  pub first : IsFirstRefused resolution path region
  pub unserved : IsUnserved resolution region

-- what `lock` prints with status 1 is such a text
abbrev pub RefusalsAreRight : Type 0
RefusalsAreRight = (words : List (List ℕ)) (m : FileMap) (bytes project folder : List ℕ) (workers : ℕ)
    (old : Option (List ℕ))
    → question words ≡ lock project folder workers old → IsAnswer words m 1 bytes
    → TellsCore project folder old m bytes

-- the bytes are those of such a fork, and behind it stand the lines of a derivation, which the problem of its region accepts
pub record TellsReason (project folder : List ℕ) (old : Option (List ℕ)) (m : FileMap) (bytes : List ℕ) : Type 0 where
  pub resolution : ResolutionFields
  pub given : (resolution_in project folder old m).gives (Ok resolution)
  pub path : List Bool
  pub region : Plain
  pub steps : List ℕ
  pub is : bytes ≡ reason_text path region steps
  pub lines : AreStepsOf resolution region steps
  pub first : IsFirstRefused resolution path region
  pub unserved : IsUnserved resolution region

-- what `why` prints with status 1 is such a text
abbrev pub ReasonsAreRight : Type 0
ReasonsAreRight = (words : List (List ℕ)) (m : FileMap) (bytes project folder : List ℕ) (workers : ℕ) (old : Option (List ℕ))
    → question words ≡ why project folder workers old → IsAnswer words m 1 bytes
    → TellsReason project folder old m bytes

-- put into a file, where what is read for the project and the index folder stays, it is accepted by `check`, where a file may
-- be so long
abbrev pub PrintedAreAccepted : Type 0
PrintedAreAccepted = (words others : List (List ℕ)) (before now : FileMap) (bytes project folder derivation : List ℕ)
    (workers : ℕ) (old : Option (List ℕ))
    → question words ≡ why project folder workers old → question others ≡ check project folder derivation
    → IsAnswer words before 1 bytes → AgreeOn (resolution_in project folder None before).reads before now
    → content now derivation ≡ Some bytes → length bytes ≤ text_bytes → IsAnswer others now 0 (codes "accepted\n")

-- ---- `check` with status 0

-- the file has a derivation, and no selection serves its region
pub record RefutesFile (project folder derivation : List ℕ) (m : FileMap) : Type 0 where
  pub resolution : ResolutionFields
  pub given : (resolution_in project folder None m).gives (Ok resolution)
  pub proof : Proof
  pub read : (proof_at derivation m).gives (Ok proof)
  pub none : (s : Selection)
      → Serves resolution.wish.strategy resolution.catalog (starts_of (question_of resolution)) (region_of proof.region) s → ⊥

-- where `check` ends with status 0, whoever wrote the derivation, that is so
abbrev pub AcceptedAreRight : Type 0
AcceptedAreRight = (words : List (List ℕ)) (m : FileMap) (bytes project folder derivation : List ℕ)
    → question words ≡ check project folder derivation → IsAnswer words m 0 bytes → RefutesFile project folder derivation m

-- ---- `verify` with status 0

-- the file has a lock that is right, for what the files give, in every world that the project supports
pub record IsSoundFile (project folder path : List ℕ) (m : FileMap) : Type 0 where
  pub resolution : ResolutionFields
  pub given : (resolution_in project folder None m).gives (Ok resolution)
  pub lock : Lock
  pub read : (lock_at path m).gives (Ok lock)
  pub sound : IsSound resolution.catalog resolution.project lock

-- where `verify` ends with status 0, whoever wrote the lock, it is right
abbrev pub VerifiedAreRight : Type 0
VerifiedAreRight = (words : List (List ℕ)) (m : FileMap) (bytes project folder path : List ℕ)
    → question words ≡ verify project folder path → IsAnswer words m 0 bytes → IsSoundFile project folder path m

-- and `env` of it, with names of the project's extras, ends with status 0 exactly where the project supports the
-- machine's world, and then lists exactly what it requires there
abbrev pub VerifiedEnvironmentsAreRight : Type 0
VerifiedEnvironmentsAreRight = (words others : List (List ℕ)) (m : FileMap) (bytes text project folder path machine : List ℕ)
    (status : ℕ) (extras : List (List ℕ)) (r : ResolutionFields) (l : Lock) (x : MachineFields)
    (comparisons : List AtomFields)
    → question words ≡ verify project folder path → question others ≡ env path machine extras
    → IsAnswer words m 0 bytes → IsAnswer others m status text
    → (resolution_in project folder None m).gives (Ok r) → (lock_at path m).gives (Ok l)
    → (machine_at machine m).gives (Ok x)
    → AreProjectExtras r.project (names_of extras)
    → AnswersRightly (IsEligible r.catalog) r l x comparisons extras status text

-- ---- workers

-- with another number of workers the same statuses and bytes are answers
abbrev pub WorkersChangeNothing : Type 0
WorkersChangeNothing = (words others : List (List ℕ)) (workers : ℕ) (m : FileMap) (status : ℕ) (bytes : List ℕ)
    → question others ≡ with_workers workers (question words) → IsAnswer words m status bytes ↔ IsAnswer others m status bytes

-- ---- that there is an answer

-- some status and bytes are an answer to each list of words, on every map of files
abbrev pub QuestionsAreAnswered : Type 0
QuestionsAreAnswered = (words : List (List ℕ)) (m : FileMap) → (status : ℕ) × (bytes : List ℕ) × IsAnswer words m status bytes

-- What is resolved is decided for a region: it has a best selection exactly where some selection serves it, one of the
-- outcomes, and a fork answer.
pub record IsRegionDecided (r : ResolutionFields) (t : Plain) : Type 0 where
  pub best : ((s : Selection) × IsBest r.catalog (starts_of (question_of r)) r.wish (region_of t) s)
      ↔ ((s : Selection) × Serves r.wish.strategy r.catalog (starts_of (question_of r)) (region_of t) s)
  pub outcome : (o : TreeOutcome) × IsOutcome (question_of r) t o
  pub forks : (counts : List ℕ) × (a : TreeAnswer) × IsForkAnswer (question_of r) t counts a

-- of what files give each region is decided
abbrev pub RegionsAreDecided : Type 0
RegionsAreDecided = (project folder : List ℕ) (old : Option (List ℕ)) (m : FileMap) (r : ResolutionFields) (t : Plain)
    → (resolution_in project folder old m).gives (Ok r) → IsRegionTree t → IsRegionDecided r t
