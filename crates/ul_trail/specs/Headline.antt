-- What propagation promises.
use Rattle.std.specs.Prelude.{◌≡◌}
use Rattle.ul_problem.specs.Plain.{Plain}
use Rattle.ul_trail.specs.Track.{Track}
use Rattle.ul_trail.specs.Propagation.{IsTrailOf, HasGrown, AreSound, IsProgress}
use Rattle.ul_trail.specs.declared.fact.Progress.{Progress}

-- Unit propagation of a problem's trail over its held incompatibilities. The answer is that nothing more is derived, or the place of an
-- incompatibility all of whose terms hold.
pub record IsPropagated (p : Plain) (before now : Track) (r : Progress) : Type 0 where
  -- the trail stays one of the problem's: each fact is derived from its cause and the facts before it
  pub kept : IsTrailOf p now
  -- the held steps stay the same
  pub steps : now.steps ≡ before.steps
  -- the facts grow at the end, by facts that are new, are of the present level and have a cause
  pub grown : HasGrown p before.facts now.facts
  -- the facts hold of each serving selection that agrees with the decisions
  pub sound : AreSound p now.facts
  -- Conflict: all terms of that held step hold. Quiet: of no held step do all terms hold, nor all but one that isn't known to fail
  pub progress : IsProgress p now r
