-- Each region of a catalog has an outcome, and each question has a fork answer.
use Rattle.std.specs.Prelude.{◌↔◌, ℕ, List}
use Rattle.ul_nodes.specs.Plain.{Plain}
use Rattle.ul_tree.specs.Regions.{IsRegionTree}
use Rattle.ul_index.specs.Regions.{Region}
use Rattle.ul_index.specs.Serves.{Selection, Serves}
use Rattle.ul_region.specs.Best.{IsBest}
use Rattle.ul_generations.specs.Outcomes.{MayGoOn}
use Rattle.ul_forks.specs.Headline.{IsAnswer, TreeAnswer}
use Rattle.ul_forks.specs.Outcome.{IsOutcome, Question, TreeOutcome, starts_of}
use Rattle.laws_problems.specs.Exists.{IsAskedOf}
use Rattle.laws_trees.specs.Trees.{HasTree}

-- what a question asks of has problems
abbrev pub IsAskable : Question → Type 0
IsAskable q = IsAskedOf q.catalog (starts_of q)

-- one selection is the best of a region exactly where some selection serves it
abbrev pub BestWhereServed : Type 0
BestWhereServed = (q : Question) (R : Region) → IsAskable q → HasTree R
    → ((best : Selection) × IsBest q.catalog (starts_of q) q.wish R best)
    ↔ ((s : Selection) × Serves q.wish.strategy q.catalog (starts_of q) R s)

-- each region has an outcome; where it is split, both parts are regions
abbrev pub OutcomeExists : Type 0
OutcomeExists = (q : Question) (t : Plain) → IsAskable q → IsRegionTree t
    → (o : TreeOutcome) × IsOutcome q t o × MayGoOn IsRegionTree o

-- each question has a fork answer
abbrev pub ForkAnswerExists : Type 0
ForkAnswerExists = (q : Question) (t : Plain) → IsAskable q → IsRegionTree t
    → (counts : List ℕ) × (a : TreeAnswer) × IsAnswer q t counts a
