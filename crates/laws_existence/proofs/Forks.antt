-- The fork answer of what files give, and the problem of a fork that is refused.
use Rattle.ul_nodes.specs.Plain.{Plain}
use Rattle.ul_tree.specs.Regions.{IsRegionTree, region_of}
use Rattle.ul_problem.specs.Plain.{Plain as Problem}
use Rattle.ul_problem.specs.Serving.{HasNone}
use Rattle.ul_region.specs.Laws.{NothingServes}
use Rattle.ul_generations.specs.Generations.{refused_at}
use Rattle.ul_generations.proofs.ForCallers.{refused_has}
use Rattle.ul_forks.specs.Headline.{TreeAnswer, TreeRefusal}
use Rattle.ul_forks.specs.Outcome.{IsOutcome, starts_of}
use Rattle.ul_inputs.specs.Resolutions.{IsResolution, ResolutionFields}
use Rattle.ul_commands.specs.Laws.{ForksAreUnserved}
use Rattle.ul_commands.specs.Questions.{IsForked, IsProblemIn, question_of}
use Rattle.laws_given.specs.Given.{HasTexts}
use Rattle.laws_problems.specs.Exists.{IsAskedOf, ProblemExists}
use Rattle.laws_commands.proofs.ForCallers.{split_goes}
use Rattle.laws_forks.specs.Exists.{ForkAnswerExists}

-- what is known of each resolution that files give
pub record IsKnown (r : ResolutionFields) : Type 0 where
  pub resolution : IsResolution r
  pub texts : HasTexts r
  pub asked : IsAskedOf r.catalog (starts_of (question_of r))

-- what fork answers rest on: each question has one, each region has a problem, nothing serves a refused fork, and so
-- nothing serves its problem
pub record ForkLaws : Type 0 where
  pub answers : ForkAnswerExists
  pub problems : ProblemExists
  pub unserved : ForksAreUnserved
  pub nothing : NothingServes

-- there is a fork answer
pub forked_given : ForkLaws → (r : ResolutionFields) → IsKnown r → (a : TreeAnswer) × IsForked r a
forked_given laws r known =
    let found = laws.answers (question_of r) r.project.region known.asked known.resolution.project.region in
    (found.1, record { counts = found.0; answer = found.2 })

-- a region with its problem, which nothing serves
pub record HasUnserved (r : ResolutionFields) (region : Plain) : Type 0 where
  pub problem : Problem
  pub of_region : IsProblemIn r region problem
  pub none : HasNone problem

-- a fork that is refused has one
pub refused_problem : ForkLaws → (r : ResolutionFields) (fork : TreeRefusal) → IsKnown r
    → IsForked r (refused_at fork) → HasUnserved r fork.region
refused_problem laws r fork known forked =
    let q = question_of r in
    let tree =
    refused_has (IsOutcome q) IsRegionTree (split_goes q)
    r.project.region forked.counts fork known.resolution.project.region forked.answer in
    let found = laws.problems r.catalog (starts_of q) r.wish (region_of fork.region) known.asked (fork.region, tree) in
    record {
      problem = found.0;
      of_region = found.1;
      none = (laws.nothing r.catalog (starts_of q) r.wish (region_of fork.region) found.0 found.1).1
          (laws.unserved r fork known.resolution forked).none;
    }
