-- What a judge of regions goes by.
use Rattle.std.specs.Prelude.{◌≡◌, ℕ, List}
use Rattle.ul_problem.specs.Plain.{Plain as Problem}
use Rattle.ul_index.specs.Regions.{Region}
use Rattle.ul_region.specs.Problem.{IsProblemOf}
use Rattle.ul_region.specs.Truths.{PassView}
use Rattle.ul_prepared.specs.Prepared.{IsPrepared}
use Rattle.ul_prepared.specs.Project.{IsProjectOf}
use Rattle.ul_prepared.specs.declared.prepared.Prepared.{Prepared}
use Rattle.ul_forks.specs.Outcome.{Question, starts_of}
use Rattle.ul_forks.specs.Forked.{question_of}
use Rattle.ul_forks.specs.declared.region_judge.RegionJudge.{RegionJudge}

-- what is resolved, by what all regions share and the project's extras
abbrev pub question_with : Prepared → List (List ℕ) → Question
question_with shared extras = question_of shared.catalog.now extras shared.wish.now

-- what all regions share is right, for the project's base and the extras
pub record IsReady (h : PassView) (shared : Prepared) (extras : List (List ℕ)) : Type 0 where
  pub prepared : IsPrepared h shared
  pub starts : shared.starts.now ≡ starts_of (question_with shared extras)
  pub project : IsProjectOf shared.catalog.now shared.starts.now

-- the same of a judge
abbrev pub IsReadyJudge : PassView → RegionJudge → Type 0
IsReadyJudge h j = IsReady h j.prepared.now j.extras.now

-- what a judge resolves
abbrev pub question_in : RegionJudge → Question
question_in j = question_with j.prepared.now j.extras.now

-- the problem of a region
abbrev pub IsProblemIn : RegionJudge → Region → Problem → Type 0
IsProblemIn j R p = IsProblemOf j.prepared.now.catalog.now j.prepared.now.starts.now j.prepared.now.wish.now R p
