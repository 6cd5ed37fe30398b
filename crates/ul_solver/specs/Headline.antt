-- What the solver answers.
use Rattle.std.specs.Prelude.{◌≡◌, [], None}
use Rattle.ul_problem.specs.Plain.{Plain}
use Rattle.ul_problem.specs.Serving.{Serves, HasNone}
use Rattle.ul_problem.specs.Steps.{Accepts}
use Rattle.ul_problem.specs.Best.{Picks, next_of, version_in, IsBest}
use Rattle.ul_trail.specs.Track.{Track}
use Rattle.ul_trail.specs.Facts.{picks_of}
use Rattle.ul_trail.specs.Propagation.{IsTrailOf, NoConflict}
use Rattle.ul_trail.specs.Moves.{HasSteps}
use Rattle.ul_solver.specs.State.{IsSteered}
use Rattle.ul_solver.specs.declared.solver.Answer.{Answer}
use Rattle.ul_solver.specs.declared.solver.Answer.TheVariants.{Best, Nothing}

-- The decisions are those of the best selection, and the trail shows it.
pub record IsBestShown (p : Plain) (picks : Picks) (t : Track) : Type 0 where
  -- the list of decisions is the best
  pub best : IsBest p picks
  -- its map serves
  pub serves : Serves p (version_in picks)
  -- the trail is one of the problem's, and holds the problem's steps of the decided versions
  pub right : IsTrailOf p t
  pub held : HasSteps p picks t.steps
  -- the decisions are the trail's roots and decisions, in their order
  pub shown : picks ≡ picks_of t.facts
  -- each is the next node at the first version of its order that no earlier fact excludes
  pub steered : IsSteered p [] t.facts
  -- no node is left to decide
  pub end : next_of p picks ≡ None
  -- of no held step do all terms hold
  pub calm : NoConflict p t

-- Best: as above. Nothing: no selection serves, and the derivation of this is accepted. So each comes exactly where it must.
abbrev pub IsAnswered : Plain → Answer → Type 0
IsAnswered p (Best picks trail) = IsBestShown p picks.items trail
IsAnswered p (Nothing derivation) = HasNone p × Accepts p derivation
