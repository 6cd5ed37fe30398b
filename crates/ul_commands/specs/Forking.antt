-- The fork answer of a resolution, as the code has it.
use Rattle.std.specs.Prelude.{◌≡◌, ℕ, List, Option, Some, None, map}
use Rattle.ul_generations.specs.declared.answers.ForkFault.{ForkFault}
use Rattle.ul_generations.specs.declared.answers.ForkFault.TheVariants.{TooManyForks, NoMemory as NoMemoryToFork}
use Rattle.ul_generations.specs.Answers.{answer_of}
use Rattle.ul_generations.specs.Generations.{too_many}
use Rattle.ul_forks.specs.Forked.{ForkedMarks, HasAccepted, HasRegions}
use Rattle.ul_forks.specs.Headline.{IsAnswer}
use Rattle.ul_forks.specs.Judged.{answer_of_trees}
use Rattle.ul_forks.specs.Outcome.{starts_of}
use Rattle.ul_forks.specs.declared.question.Question.{Question}
use Rattle.ul_prepared.specs.Prepared.{IsPrepared}
use Rattle.ul_prepared.specs.declared.prepared.Prepared.{Prepared}
use Rattle.ul_region.specs.Truths.{PassView}
use Rattle.ul_inputs.specs.Refused.{Refused}
use Rattle.ul_inputs.specs.Refusals.{IsRefusalFor}
use Rattle.ul_inputs.specs.Resolutions.{ResolutionFields}
use Rattle.ul_inputs.specs.declared.refusal.Refusal.{Refusal}
use Rattle.ul_inputs.specs.declared.refusal.Refusal.TheVariants.{NoMemory}
use Rattle.ul_commands.specs.Questions.{IsForked, question_of, too_many_forks}

-- the question of a resolution, with the nodes that each selection starts from
pub record IsQuestionOf (r : ResolutionFields) (q : Question) : Type 0 where
  pub catalog : q.catalog.now ≡ r.catalog
  pub extras : q.extras.now ≡ r.project.extras
  pub starts : q.starts.now ≡ starts_of (question_of r)
  pub wish : q.wish.now ≡ r.wish

-- what all regions of a resolution share
pub record IsSharedOf (r : ResolutionFields) (h : PassView) (p : Prepared) : Type 0 where
  pub prepared : IsPrepared h p
  pub catalog : p.catalog.now ≡ r.catalog
  pub starts : p.starts.now ≡ starts_of (question_of r)
  pub wish : p.wish.now ≡ r.wish

-- marks as the fork answer of a resolution, known to a pass; where a region is refused, its derivation is accepted
pub record AreForksOf (r : ResolutionFields) (h : PassView) (forked : ForkedMarks) : Type 0 where
  pub is_answer : IsForked r (answer_of_trees (answer_of forked))
  pub accepted : HasAccepted (question_of r) forked
  pub known : HasRegions h forked

-- the rounds in which a fork answer was found: one for each generation, by so many workers, with a result for each of its
-- regions
pub record HasRounds (r : ResolutionFields) (workers : ℕ) (forked : ForkedMarks) (rounds : List (ℕ × ℕ)) : Type 0 where
  pub counts : List ℕ
  pub answer : IsAnswer (question_of r) r.project.region counts (answer_of_trees (answer_of forked))
  pub generations : rounds ≡ map (λ n. (workers, n)) counts

-- what a fault says, if it isn't want of memory
abbrev pub refused_forks : ForkFault → Option Refused
refused_forks (TooManyForks count) = Some too_many_forks
refused_forks NoMemoryToFork = None

-- the refusal is that there are too many forks, and there are; or memory ran out
abbrev pub IsForkRefusal : ResolutionFields → Refusal → Type 0
IsForkRefusal r NoMemory = Unit {0}
IsForkRefusal r e = IsRefusalFor (Some too_many_forks) e × ((count : ℕ) × IsForked r (too_many count))
