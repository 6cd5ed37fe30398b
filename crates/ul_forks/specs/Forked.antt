-- What `fork_all` answers: the fork answer, with a round for each generation.
use Rattle.std.specs.Prelude.{◌≡◌, ℕ, List, [], ◌∷◌, map}
use Rattle.ul_requirement.specs.Fields.{WishFields}
use Rattle.ul_nodes.specs.Plain.{Plain}
use Rattle.ul_index.specs.Catalogs.{Packages}
use Rattle.ul_problem.specs.declared.step.Step.{Step}
use Rattle.ul_region.specs.Truths.{DiagramMark, PassView, IsRegion}
use Rattle.ul_generations.specs.declared.answers.Forked.{Forked}
use Rattle.ul_generations.specs.declared.answers.Forked.TheVariants.{Leaves, Refused}
use Rattle.ul_generations.specs.Answers.{answer_of}
use Rattle.ul_generations.specs.Known.{AnswerKnown}
use Rattle.ul_forks.specs.Outcome.{Question}
use Rattle.ul_forks.specs.Headline.{IsAnswer}
use Rattle.ul_forks.specs.Judged.{Decisions, IsAccepted, answer_of_trees}

-- the name of the first package, which is the project's
abbrev pub project_name : Packages → List ℕ
project_name [] = []
project_name (p ∷ ps) = p.name

-- what is resolved, for a catalog that begins with the project
abbrev pub question_of : Packages → List (List ℕ) → WishFields → Question
question_of c extras wish = record { catalog = c; name = project_name c; extras = extras; wish = wish }

-- an answer, as the code has it
abbrev pub ForkedMarks : Type 0
ForkedMarks = Forked DiagramMark Decisions (List Step)

-- where a region is refused, the derivation is accepted by the problem of this very region
abbrev pub HasAccepted : Question → ForkedMarks → Type 0
HasAccepted q (Leaves leaves) = Unit {0}
HasAccepted q (Refused path region steps) = IsAccepted q region steps

-- the fork answer of a region, whatever the number of workers, with one round for each generation: it has so many
-- workers, and as many results as the generation has regions
pub record IsForked (q : Question) (region : Plain) (workers : ℕ) (forked : ForkedMarks) (rounds : List (ℕ × ℕ))
    : Type 0 where
  pub counts : List ℕ
  pub answer : IsAnswer q region counts (answer_of_trees (answer_of forked))
  pub accepted : HasAccepted q forked
  pub generations : rounds ≡ map (λ n. (workers, n)) counts

-- each region of an answer is a region's diagram that is known
abbrev pub HasRegions : PassView → ForkedMarks → Type 0
HasRegions h forked = AnswerKnown (IsRegion h) (λ d. Unit {0}) (λ f. Unit {0}) forked
