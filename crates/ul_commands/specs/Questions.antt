-- The fork answer of a resolution, and the problem of a region.
use Rattle.std.specs.Prelude.{ℕ, List, codes}
use Rattle.ul_nodes.specs.Plain.{Plain}
use Rattle.ul_tree.specs.Regions.{region_of}
use Rattle.ul_problem.specs.Plain.{Plain as Problem}
use Rattle.ul_region.specs.Problem.{IsProblemOf}
use Rattle.ul_generations.specs.Generations.{most_forks}
use Rattle.ul_forks.specs.Headline.{IsAnswer, TreeAnswer}
use Rattle.ul_forks.specs.Outcome.{Question, starts_of}
use Rattle.ul_inputs.specs.Refused.{Refused, limit}
use Rattle.ul_inputs.specs.Resolutions.{ResolutionFields}

-- what is resolved: the catalog, from the project and all its extras on
abbrev pub question_of : ResolutionFields → Question
question_of r =
    record { catalog = r.catalog; name = r.project.package.name; extras = r.project.extras; wish = r.wish }

-- the fork answer of the supported region; the number of workers isn't looked at
pub record IsForked (r : ResolutionFields) (forked : TreeAnswer) : Type 0 where
  pub counts : List ℕ
  pub answer : IsAnswer (question_of r) r.project.region counts forked

-- the problem of a region
abbrev pub IsProblemIn : ResolutionFields → Plain → Problem → Type 0
IsProblemIn r region p = IsProblemOf r.catalog (starts_of (question_of r)) r.wish (region_of region) p

-- there are too many forks
abbrev pub too_many_forks : Refused
too_many_forks = limit (codes "forks") most_forks
