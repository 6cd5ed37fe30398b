-- What conflict analysis answers.
use Rattle.std.specs.Prelude.{◌≡◌, ℕ, List, [], ◌∷◌, ◌++◌, Some, ◌<◌, slice_get}
use Rattle.ul_problem.specs.Plain.{Plain}
use Rattle.ul_problem.specs.Steps.{says, AreRightAfter, AreRootTerms, Accepts}
use Rattle.ul_problem.specs.declared.term.Term.{Term}
use Rattle.ul_problem.specs.declared.step.Step.{Step}
use Rattle.ul_trail.specs.Track.{Track}
use Rattle.ul_trail.specs.Facts.{level_of, up_to, AreHeld, AreHeldBut, IsFailed}
use Rattle.ul_trail.specs.Propagation.{AreForbidden}
use Rattle.ul_conflict.specs.declared.analysis.Outcome.{Outcome}
use Rattle.ul_conflict.specs.declared.analysis.Outcome.TheVariants.{Backjump, Closed}

-- The last of the learned steps says the resolvent. At a level, and at no lower one, it derives something new; and it doesn't forbid the
-- roots.
pub record LastDerives (p : Plain) (t : Track) (level : ℕ) (learned : List Step) : Type 0 where
  pub front : List Step
  pub step : Step
  pub last : learned ≡ front ++ step ∷ []
  -- all its terms are held at the level but this one, which isn't known to fail there
  pub term : Term
  pub but : AreHeldBut (up_to level t.facts) term (says p step)
  pub possible : IsFailed (up_to level t.facts) term → ⊥
  -- at a lower level another isn't held
  pub least : (l : ℕ) → l < level → AreHeldBut (up_to l t.facts) term (says p step) → ⊥
  pub unrooted : AreRootTerms p (says p step) → ⊥

-- To go back to a level and to hold the learned steps is right, and leads on.
pub record IsBackjump (p : Plain) (t : Track) (level : ℕ) (learned : List Step) : Type 0 where
  -- the level is below the present one
  pub lower : level < level_of t.facts
  -- each learned step is right after the trail's steps and the earlier ones
  pub right : AreRightAfter p t.steps learned
  -- no serving selection has all terms of any of them
  pub forbidden : AreForbidden p learned
  -- of none do all terms hold at the level
  pub calm : (k : ℕ) (s : Step) → slice_get learned k ≡ Some s → AreHeld (up_to level t.facts) (says p s) → ⊥
  -- the last derives something new there
  pub derives : LastDerives p t level learned

-- The answer is right. Closed comes exactly where the last resolvent forbids the roots, since an accepted derivation ends in such a step
-- and the last learned step is no such.
abbrev pub IsOutcome : Plain → Track → Outcome → Type 0
IsOutcome p t (Backjump level learned) = IsBackjump p t level learned.items
IsOutcome p t (Closed derivation) = Accepts p derivation
