-- What becomes of a region, by the picks of its problem.
use Rattle.std.proofs.Common.{ℕ, List, Bool, inl, inr, map, not, subst, Result, Ok, Err, IfOk}
use Rattle.ul_comparison.specs.Worlds.{WorldFields}
use Rattle.ul_base.specs.declared.node.Node.{Node}
use Rattle.ul_problem.specs.Best.{Picks, IsBest as IsBestPlaces}
use Rattle.ul_problem.specs.Plain.{Plain as Problem}
use Rattle.ul_problem.specs.Steps.{Accepts}
use Rattle.ul_problem.specs.declared.step.Step.{Step}
use Rattle.ul_index.specs.Serves.{Selection}
use Rattle.ul_algebra.specs.Spelled.{tree_of}
use Rattle.ul_region.specs.Laws.{BestNames}
use Rattle.ul_region.specs.Naming.{AreNamed}
use Rattle.ul_region.specs.Problem.{IsProblemOf}
use Rattle.ul_region.specs.Truths.{DiagramMark, PassView, region_at}
use Rattle.ul_split.specs.Answers.{SplitGives, decided_of}
use Rattle.ul_split.specs.Split.{Decided, IsUnsplit}
use Rattle.ul_split.specs.declared.split.Chosen.{Chosen}
use Rattle.std.specs.Prelude.{Some}
use Rattle.ul_interner.specs.Known.{Knows}
use Rattle.ul_generations.specs.Outcomes.{IsKnown, known_on}
use Rattle.ul_generations.specs.declared.outcomes.Outcome.{Outcome}
use Rattle.ul_prepared.proofs.ForCallers.{prepared_still}
use Rattle.ul_prepared.specs.declared.prepared.Prepared.{Prepared}
use Rattle.ul_region.proofs.ForCallers.{is_region, truth_still}
use Rattle.ul_region.specs.Truths.{IsRegion, IsTruth, truth_within}
use Rattle.ul_forks.specs.Children.{PartsBy}
use Rattle.ul_forks.specs.Judge.{IsProblemIn, IsReady, IsReadyJudge, question_in}
use Rattle.ul_forks.specs.Judged.{IsAccepted}
use Rattle.ul_forks.specs.Deeper.{SplitsDeeper}
use Rattle.ul_forks.specs.Outcome.{Question, IsDecided, IsDone, IsSplit, starts_of}
use Rattle.ul_forks.specs.Picks.{IsPicked, OneForOne}
use Rattle.ul_forks.specs.declared.region_judge.RegionJudge.{RegionJudge}
use Rattle.ul_forks.proofs.Picking.{names_decided, names_there}

-- what a judge goes by stays right where more is known
pub ready_still : (g h : PassView) (shared : Prepared) (extras : List (List ℕ)) → Knows g h → IsReady g shared extras → IsReady h shared extras
ready_still g h shared extras more r = record { prepared = prepared_still g h shared more r.prepared; starts = r.starts; project = r.project }

-- an outcome's regions stay known
pub known_still : {D F E : Type 0} (g h : PassView) (r : Result (Outcome DiagramMark D F) E) → Knows g h → IfOk r (IsKnown (IsRegion g) (λ d. Unit {0}) (λ f. Unit {0})) → IfOk r (IsKnown (IsRegion h) (λ d. Unit {0}) (λ f. Unit {0}))
known_still g h (Ok o) more k = known_on (IsRegion g) (IsRegion h) (λ d. Unit {0}) (λ d. Unit {0}) (λ f. Unit {0}) (λ f. Unit {0}) (λ m t. truth_still g h m (region_at m) more t) (λ d u. u) (λ f u. u) o k
known_still g h (Err e) more k = tt

module _ (h : PassView) (j : RegionJudge) (region : DiagramMark) (p : Problem) (ready : IsReadyJudge h j) (of : IsProblemIn j (region_at region) p) where
  problem_of_question : IsProblemOf (question_in j).catalog (starts_of (question_in j)) (question_in j).wish (region_at region) p
  problem_of_question = subst (λ (starts : List Node). IsProblemOf (question_in j).catalog starts (question_in j).wish (region_at region) p) ready.starts of

  -- an accepted derivation
  pub is_accepted : (steps : List Step) → Accepts p steps → IsAccepted (question_in j) region steps
  is_accepted steps a = (p, problem_of_question, a)

  module _ (best_names : BestNames) (picks : Picks) (best : IsBestPlaces p picks) (ds : List Chosen)
      (picked : OneForOne (IsPicked h j.prepared.now.catalog.now j.prepared.now.truths.marks.items p) picks ds) where
    -- the named picks are decided, with the releases of the rows
    pub is_decided : (s : Selection) → AreNamed p picks s → IsDecided (question_in j) (tree_of region) s (map decided_of ds)
    is_decided s named = record {
      is_best = best_names (question_in j).catalog (starts_of (question_in j)) (question_in j).wish (region_at region) p picks s problem_of_question named best;
      are_decided = names_decided h j.prepared.now.catalog.now j.prepared.now.truths.marks.items p picks s ds named picked;
    }

    -- nothing splits the region
    pub is_done : (s : Selection) → AreNamed p picks s → IsUnsplit (region_at region) (map decided_of ds) → IsDone (question_in j) (tree_of region) s
    is_done s named unsplit = record { decided = map decided_of ds; are = is_decided s named; unsplit = unsplit }

    -- the truth of a diagram splits the region
    pub is_split : (g : PassView) (truth first second : DiagramMark) → SplitGives h (region_at region) (map decided_of ds) (Some truth) → PartsBy g region truth first second → IsSplit (question_in j) (tree_of region) (tree_of first) (tree_of second)
    is_split g truth first second split parts = let named = names_there h j.prepared.now.catalog.now j.prepared.now.truths.marks.items p picks ds picked in
        let both = parts split.0 split.2.truth in record {
          truth = split.0;
          splits = inl (record { best = named.0; decided = map decided_of ds; are = is_decided named.0 named.1; splits = split.1 });
          true_in = both.0.truth;
          false_in = both.1.truth;
        }

-- the core of a region that nothing serves splits it
pub is_deeper : (h g : PassView) (q : Question) (region truth first second : DiagramMark) → SplitsDeeper h q region (Some truth) → PartsBy g region truth first second → IsSplit q (tree_of region) (tree_of first) (tree_of second)
is_deeper h g q region truth first second d parts = let both = parts d.0 d.2.truth in record { truth = d.0; splits = inr d.1; true_in = both.0.truth; false_in = both.1.truth }

-- the two parts of a region by a truth are regions
parts_regions : (h g : PassView) (region truth first second : DiagramMark) (p : WorldFields → Bool) → IsTruth h truth p → PartsBy g region truth first second → IsRegion g first × IsRegion g second
parts_regions h g region truth first second p is parts = let both = parts p is.truth in (
  is_region g first (truth_within (region_at region) p) both.0,
  is_region g second (truth_within (region_at region) (λ w. not (p w))) both.1,
)

pub deeper_regions : (h g : PassView) (q : Question) (region truth first second : DiagramMark) → SplitsDeeper h q region (Some truth) → PartsBy g region truth first second → IsRegion g first × IsRegion g second
deeper_regions h g q region truth first second d parts = parts_regions h g region truth first second d.0 d.2 parts

-- the two parts of a region are regions
pub both_regions : (h g : PassView) (region truth first second : DiagramMark) (ds : List Decided) → SplitGives h (region_at region) ds (Some truth) → PartsBy g region truth first second → IsRegion g first × IsRegion g second
both_regions h g region truth first second ds split parts = parts_regions h g region truth first second split.0 split.2 parts
