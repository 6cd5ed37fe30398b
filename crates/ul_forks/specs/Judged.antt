-- What becomes of a region's diagram, as the code has it: with the decisions of a leaf, and the derivation of a refused
-- region.
use Rattle.std.specs.Prelude.{ℕ, List, Vec}
use Rattle.std.specs.declared.alloc.Global.{Global}
use Rattle.ul_base.specs.declared.node.Node.{Node}
use Rattle.ul_version.specs.Fields.{Fields}
use Rattle.ul_problem.specs.Plain.{Plain as Problem}
use Rattle.ul_problem.specs.Steps.{Accepts}
use Rattle.ul_problem.specs.declared.step.Step.{Step}
use Rattle.ul_algebra.specs.Spelled.{tree_of}
use Rattle.ul_region.specs.Problem.{IsProblemOf}
use Rattle.ul_region.specs.Truths.{DiagramMark, region_at}
use Rattle.ul_generations.specs.declared.outcomes.Outcome.{Outcome}
use Rattle.ul_generations.specs.declared.outcomes.Outcome.TheVariants.{Done, Split, Refused}
use Rattle.ul_generations.specs.Rows.{Refusal}
use Rattle.ul_generations.specs.Generations.{Answer, refused_at, IsForkAnswer}
use Rattle.ul_generations.specs.Maps.{answer_seen}
use Rattle.ul_forks.specs.Outcome.{Question, starts_of, IsRefused, IsDone, IsSplit, IsUnsplitByCore}
use Rattle.ul_forks.specs.Headline.{TreeAnswer, IsAnswer}

-- decisions, in order
abbrev pub Decisions : Type 0
Decisions = Vec (Node × Fields) Global

-- the problem of a region
abbrev pub HasProblem : Question → DiagramMark → Problem → Type 0
HasProblem q region p = IsProblemOf q.catalog (starts_of q) q.wish (region_at region) p

-- the derivation is accepted by the problem of this very region
abbrev pub IsAccepted : Question → DiagramMark → List Step → Type 0
IsAccepted q region steps = (p : Problem) × HasProblem q region p × Accepts p steps

-- what becomes of a region; a refused one has an accepted derivation, and no core splits it
abbrev pub IsJudged : Question → DiagramMark → Outcome DiagramMark Decisions (List Step) → Type 0
IsJudged q region (Done decisions) = IsDone q (tree_of region) decisions.items
IsJudged q region (Split first second) = IsSplit q (tree_of region) (tree_of first) (tree_of second)
IsJudged q region (Refused steps) = IsAccepted q region steps × IsUnsplitByCore q (tree_of region)

-- an answer of diagrams, as one of trees
abbrev pub answer_of_trees : Answer DiagramMark Decisions (List Step) → TreeAnswer
answer_of_trees a = answer_seen tree_of (λ d. d.items) (λ f. tt) a

-- what holds of diagrams that are judged
pub record JudgedLaws : Type 0 where
  -- an accepted derivation refuses its region
  pub refuses : (q : Question) (region : DiagramMark) (steps : List Step) → IsAccepted q region steps
      → IsRefused q (tree_of region)
  -- the fork answer of a diagram is that of its tree, with the same numbers of regions
  pub answers : (q : Question) (region : DiagramMark) (counts : List ℕ) (a : Answer DiagramMark Decisions (List Step))
      → IsForkAnswer (IsJudged q) region counts a → IsAnswer q (tree_of region) counts (answer_of_trees a)
  -- the refused region of an answer has an accepted derivation
  pub accepted : (q : Question) (region : DiagramMark) (counts : List ℕ) (r : Refusal DiagramMark (List Step))
      → IsForkAnswer (IsJudged q) region counts (refused_at r) → IsAccepted q r.region r.refusal
