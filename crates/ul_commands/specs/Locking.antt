-- What `lock` answers: the lock that the leaves of the fork answer merge into, unless one of its markers isn't printable; or
-- the fork that no selection serves, with its core, unless its region isn't printable.
use Rattle.std.specs.Prelude.{◌≡◌, ℕ, List, Bool, true, false, Option, Some, None, length, map, Result, Ok, Err}
use Rattle.ul_nodes.specs.Plain.{Plain}
use Rattle.ul_tree.specs.Paths.{is_printable}
use Rattle.ul_lock.specs.declared.parts.Lock.{Lock}
use Rattle.ul_lock_write.specs.Markers.{first_over, markers_of}
use Rattle.ul_problem.specs.Plain.{Plain as Problem}
use Rattle.ul_blame.specs.Texts.{IsCoreText}
use Rattle.ul_generations.specs.Generations.{leaves_are, refused_at, too_many}
use Rattle.ul_forks.specs.Headline.{TreeAnswer, TreeLeaf, TreeRefusal}
use Rattle.ul_sound.specs.Leaves.{LeafFields}
use Rattle.ul_sound.specs.Merged.{IsMergedLock}
use Rattle.ul_inputs.specs.Inputs.{Input, ◌>>=◌, answer}
use Rattle.ul_inputs.specs.Refused.{Refused}
use Rattle.ul_inputs.specs.Resolutions.{ResolutionFields, resolution_in}
use Rattle.ul_answers.specs.Answer.{Answer, locked, no_selection, untold, unwritten}
use Rattle.ul_commands.specs.Questions.{IsForked, IsProblemIn, too_many_forks}

-- a leaf's region and its selection
abbrev pub leaf_fields : TreeLeaf → LeafFields
leaf_fields l = record { region = l.region; picks = l.done }

-- a lock of so many forks, or that it isn't written, where one of its markers isn't printable
abbrev pub answer_where : Option ℕ → Lock → (forks : ℕ) → Answer
answer_where None l forks = locked l forks
answer_where (Some paths) l forks = unwritten

-- the answer of a lock that is merged of so many forks
abbrev pub answer_of : Lock → (forks : ℕ) → Answer
answer_of l forks = answer_where (first_over (markers_of l)) l forks

-- the answer of the lock that leaves merge into
pub record IsLocked (r : ResolutionFields) (leaves : List TreeLeaf) (a : Result Answer Refused) : Type 0 where
  pub lock : Lock
  pub merged : IsMergedLock r.catalog r.project (map leaf_fields leaves) lock
  pub is : a ≡ Ok (answer_of lock (length leaves))

-- the lines of the core of a region's problem
pub record AreCoreLines (r : ResolutionFields) (region : Plain) (lines : List ℕ) : Type 0 where
  pub problem : Problem
  pub of_region : IsProblemIn r region problem
  pub text : IsCoreText problem lines

-- a fork that no selection serves, with the lines of its core
pub record IsRefusedFork (r : ResolutionFields) (fork : TreeRefusal) (a : Result Answer Refused) : Type 0 where
  pub lines : List ℕ
  pub core : AreCoreLines r fork.region lines
  pub is : a ≡ Ok (no_selection fork.path fork.region lines)

-- such a fork, which is told where its region is printable
abbrev pub RefusedWhere : Bool → ResolutionFields → TreeRefusal → Result Answer Refused → Type 0
RefusedWhere true r fork a = IsRefusedFork r fork a
RefusedWhere false r fork a = a ≡ Ok untold

-- the answer to a fork answer
abbrev pub LocksFor : ResolutionFields → TreeAnswer → Result Answer Refused → Type 0
LocksFor r (leaves_are leaves) a = IsLocked r leaves a
LocksFor r (refused_at fork) a = RefusedWhere (is_printable fork.region) r fork a
LocksFor r (too_many count) a = a ≡ Err too_many_forks

-- the answer of `lock` to a resolution
pub record IsLockAnswer (r : ResolutionFields) (a : Result Answer Refused) : Type 0 where
  pub forked : TreeAnswer
  pub are_forks : IsForked r forked
  pub locks : LocksFor r forked a

-- the lock of a project file, an index folder and perhaps an old lock
abbrev pub lock_of : (project folder : List ℕ) → Option (List ℕ) → Input Answer
lock_of project folder old = resolution_in project folder old >>= λ r. answer (IsLockAnswer r)
