-- A fork answer over diagrams is one over their trees.
use Rattle.std.proofs.Common.{List}
use Rattle.ul_problem.specs.declared.step.Step.{Step}
use Rattle.ul_derivation.specs.Laws.{AcceptedLaw}
use Rattle.ul_algebra.specs.Spelled.{tree_of}
use Rattle.ul_region.specs.Laws.{NothingServes}
use Rattle.ul_region.specs.Truths.{DiagramMark, region_at}
use Rattle.ul_generations.specs.declared.outcomes.Outcome.{Outcome}
use Rattle.ul_generations.specs.declared.outcomes.Outcome.TheVariants.{Done, Split, Refused}
use Rattle.ul_generations.specs.Maps.{outcome_seen}
use Rattle.ul_generations.proofs.ForCallers.{answer_is_seen}
use Rattle.ul_generations.proofs.Reached.{refused_is_refused}
use Rattle.ul_forks.specs.Outcome.{Question, starts_of, IsRefused, IsOutcome}
use Rattle.ul_forks.specs.Judged.{Decisions, IsAccepted, IsJudged, JudgedLaws}

module _ (accepted : AcceptedLaw) (nothing : NothingServes) where
  refuses : (q : Question) (region : DiagramMark) (steps : List Step) → IsAccepted q region steps → IsRefused q (tree_of region)
  refuses q region steps h = (nothing q.catalog (starts_of q) q.wish (region_at region) h.0 h.1).0 (accepted h.0 steps h.1.well_formed h.2)

  outcome_of_tree : (q : Question) (region : DiagramMark) (o : Outcome DiagramMark Decisions (List Step)) → IsJudged q region o → IsOutcome q (tree_of region) (outcome_seen tree_of (λ d. d.items) (λ f. tt) o)
  outcome_of_tree q region (Done d) h = h
  outcome_of_tree q region (Split a b) h = h
  outcome_of_tree q region (Refused f) h = record { refused = refuses q region f h.0; unsplit = h.1 }

  pub judged_laws : JudgedLaws
  judged_laws = record {
    refuses = refuses;
    answers = λ q region counts a h. answer_is_seen tree_of (λ d. d.items) (λ f. tt) (IsJudged q) (IsOutcome q) (outcome_of_tree q) region counts a h;
    accepted = λ q region counts r h. (refused_is_refused (IsJudged q) region counts r h).outcome.0;
  }
