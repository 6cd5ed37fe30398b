-- What holds of the answers of the commands.
use Rattle.std.specs.Prelude.{◌≡◌, ℕ, List, Bool, true, None, Ok}
use Rattle.ul_comparison.specs.Worlds.{WorldFields, IsWorld}
use Rattle.ul_requirement.specs.declared.wish.Strategy.TheVariants.{Deep}
use Rattle.ul_lock.specs.declared.parts.Lock.{Lock}
use Rattle.ul_lock_write.specs.Markers.{first_over, markers_of}
use Rattle.ul_nodes.specs.Plain.{Plain}
use Rattle.ul_tree.specs.Regions.{region_of}
use Rattle.ul_index.specs.Regions.{HasWorld}
use Rattle.ul_index.specs.Serves.{Selection, Serves}
use Rattle.ul_split.specs.Worlds.{ServesAt}
use Rattle.ul_generations.specs.Generations.{refused_at}
use Rattle.ul_forks.specs.Headline.{TreeRefusal}
use Rattle.ul_forks.specs.Outcome.{starts_of}
use Rattle.ul_sound.specs.Headline.{AreServed}
use Rattle.ul_sound.specs.Leaves.{LeafFields}
use Rattle.ul_sound.specs.Merged.{IsMergedLock}
use Rattle.ul_sound.specs.Sound.{IsSound}
use Rattle.ul_inputs.specs.Resolutions.{IsResolution, ResolutionFields}
use Rattle.ul_answers.specs.Answer.{locked, no_selection, untold}
use Rattle.ul_commands.specs.Locking.{IsLockAnswer}
use Rattle.ul_commands.specs.Questions.{IsForked, question_of}

-- the lock is what leaves merge into, which part the supported region, each with a selection that serves it whole
pub record IsOfLeaves (r : ResolutionFields) (l : Lock) : Type 0 where
  pub leaves : List LeafFields
  pub served : AreServed r.catalog r.project leaves
  pub merged : IsMergedLock r.catalog r.project leaves l

-- a lock that is answered is such
abbrev pub LocksAreOfLeaves : Type 0
LocksAreOfLeaves = (r : ResolutionFields) (l : Lock) (forks : ℕ) → IsResolution r → IsLockAnswer r (Ok (locked l forks))
    → IsOfLeaves r l

-- a lock that is answered is right in every world that the project supports: what it gives there is one version a name, and
-- exactly the closure of what is required
abbrev pub LocksAreSound : Type 0
LocksAreSound = (r : ResolutionFields) (l : Lock) (forks : ℕ) → IsResolution r → IsLockAnswer r (Ok (locked l forks))
    → IsSound r.catalog r.project l

-- each marker of a lock that is answered is printable
abbrev pub LocksArePrintable : Type 0
LocksArePrintable = (r : ResolutionFields) (l : Lock) (forks : ℕ) → IsLockAnswer r (Ok (locked l forks))
    → first_over (markers_of l) ≡ None

-- no selection serves a single world of the region
abbrev pub HasNoneAtWorlds : ResolutionFields → Plain → Type 0
HasNoneAtWorlds r region = (w : WorldFields) → IsWorld w → region_of region w ≡ true → (s : Selection)
    → ServesAt r.catalog (starts_of (question_of r)) w s → ⊥

-- a region with a world that no selection serves; and under `deep` none serves a single world of it
pub record IsUnserved (r : ResolutionFields) (region : Plain) : Type 0 where
  pub world : HasWorld (region_of region)
  pub none : (s : Selection) → Serves r.wish.strategy r.catalog (starts_of (question_of r)) (region_of region) s → ⊥
  pub at_worlds : r.wish.strategy ≡ Deep → HasNoneAtWorlds r region

-- a fork that is answered in place of a lock has a world, and no selection serves it
abbrev pub RefusedAreUnserved : Type 0
RefusedAreUnserved = (r : ResolutionFields) (path : List Bool) (region : Plain) (core : List ℕ) → IsResolution r
    → IsLockAnswer r (Ok (no_selection path region core)) → IsUnserved r region

-- the same of the refused fork of a fork answer
abbrev pub ForksAreUnserved : Type 0
ForksAreUnserved = (r : ResolutionFields) (fork : TreeRefusal) → IsResolution r → IsForked r (refused_at fork)
    → IsUnserved r fork.region

-- where each world that the project supports has a selection that serves it, no fork is answered under `deep`, told or not
abbrev pub DeepRefusesNone : Type 0
DeepRefusesNone = (r : ResolutionFields) → IsResolution r
    → r.wish.strategy ≡ Deep
    → ((w : WorldFields) → IsWorld w → region_of r.project.region w ≡ true
    → (s : Selection) × ServesAt r.catalog (starts_of (question_of r)) w s)
    → ((path : List Bool) (region : Plain) (core : List ℕ) → IsLockAnswer r (Ok (no_selection path region core)) → ⊥)
    × (IsLockAnswer r (Ok untold) → ⊥)
