-- Each region has an outcome, and so each question has a fork answer.
use Rattle.std.proofs.Common.{◌≡◌, ◌⊎◌, List, [], Bool, not, ◌&&◌, inl, inr, refl}
use Rattle.ul_comparison.specs.Worlds.{WorldFields}
use Rattle.ul_requirement.specs.declared.wish.Strategy.{Strategy}
use Rattle.ul_requirement.specs.declared.wish.Strategy.TheVariants.{Deep, Fewest, RequiresPython}
use Rattle.ul_nodes.specs.Plain.{Plain}
use Rattle.ul_tree.specs.Regions.{IsRegionTree, region_of}
use Rattle.ul_tree.proofs.ForCallers.{region_tree}
use Rattle.ul_problem.specs.Plain.{Plain as Problem}
use Rattle.ul_problem.specs.Serving.{HasNone, Serves as PlacesServe}
use Rattle.ul_problem.specs.Terms.{Selection as Places}
use Rattle.ul_index.specs.Laws.{EligibleSame, PreferenceSame}
use Rattle.ul_index.specs.Serves.{Selection, Serves}
use Rattle.ul_blame.specs.Core.{IsCore}
use Rattle.ul_blame.specs.Headline.{CorePromises}
use Rattle.ul_blame.specs.Needs.{all_needs}
use Rattle.ul_blame.specs.declared.needs.CoreNeed.{CoreNeed}
use Rattle.ul_blame.proofs.Deciding.{served_decided}
use Rattle.ul_region.specs.Best.{IsBest}
use Rattle.ul_region.specs.Laws.{NothingServes, ServingNames}
use Rattle.ul_region.specs.Problem.{IsProblemOf}
use Rattle.ul_generations.specs.declared.outcomes.Outcome.TheVariants.{Done, Refused, Split}
use Rattle.ul_generations.specs.Outcomes.{MayGoOn}
use Rattle.ul_generations.proofs.Endings.{forks_end}
use Rattle.ul_split.specs.Split.{IsUnsplit}
use Rattle.ul_split.specs.CoreSplit.{HoldsThroughout}
use Rattle.ul_forks.specs.Outcome.{IsOutcome, IsRefused, IsSplitBy, Question, TreeOutcome, starts_of}
use Rattle.laws_trees.specs.Decided.{Decided, RegionsDecide}
use Rattle.laws_trees.specs.Trees.{HasTree, TruthTrees}
use Rattle.laws_trees.proofs.ForCallers.{decided_as}
use Rattle.laws_problems.specs.Exists.{ProblemExists}
use Rattle.laws_forks.specs.Exists.{BestWhereServed, ForkAnswerExists, IsAskable, OutcomeExists}
use Rattle.laws_forks.proofs.Cores.{IsCoreSplitWith, core_splits_or_holds}
use Rattle.laws_forks.proofs.Parting.{IsSplitWith, split_or_not}
use Rattle.laws_forks.proofs.Releases.{HasReleases, has_releases}

-- the laws on which an outcome rests
pub record OutcomeLaws : Type 0 where
  pub trees : TruthTrees
  pub decide : RegionsDecide
  pub problem : ProblemExists
  pub best : BestWhereServed
  pub eligible : EligibleSame
  pub tried : PreferenceSame
  pub nothing : NothingServes
  pub names : ServingNames
  pub cores : CorePromises

-- an outcome of a region; where it is split, both parts are regions
abbrev HasOutcome : Question → Plain → Type 0
HasOutcome q t = (o : TreeOutcome) × IsOutcome q t o × MayGoOn IsRegionTree o

deep_or_not : (s : Strategy) → Decided (s ≡ Deep)
deep_or_not Fewest = inr (λ e. cc)
deep_or_not RequiresPython = inr (λ e. cc)
deep_or_not Deep = inl refl

-- whether some places serve a problem: those that do serve it with all its needs
places_decided : CorePromises → (p : Problem) → Decided ((σ : Places) × PlacesServe p σ)
places_decided cores p =
    decided_as (served_decided p (all_needs p)) (λ s. (s.0, (cores.whole p s.0).0 s.1))
    (λ s. (s.0, (cores.whole p s.0).1 s.1))

module _ (laws : OutcomeLaws) (q : Question) (t : Plain) (asked : IsAskable q) (is : IsRegionTree t) where
  -- a truth that splits the region gives a tree for each of its parts
  split : (truth : WorldFields → Bool) → IsSplitBy q t truth → HasTree truth → HasOutcome q t
  split truth splits tree =
      let first = laws.trees.both (region_of t) truth (t, is) tree in
      let second = laws.trees.both (region_of t) (λ w. not (truth w)) (t, is) (laws.trees.negated truth tree) in (
        Split first.0 second.0,
        record { truth = truth; splits = splits; true_in = first.1; false_in = second.1 },
        (
          region_tree first.0 (λ w. region_of t w && truth w) first.1,
          region_tree second.0 (λ w. region_of t w && not (truth w)) second.1,
        ),
      )

  -- ---- where something serves

  best_outcome : (best : Selection) → IsBest q.catalog (starts_of q) q.wish (region_of t) best
      → (r : HasReleases q.catalog best)
      → IsSplitWith (region_of t) r.decided ⊎ IsUnsplit (region_of t) r.decided
      → HasOutcome q t
  best_outcome best b r (inl s) = split s.truth
      (inl (record {
        best = best;
        decided = r.decided;
        are = record { is_best = b; are_decided = r.are };
        splits = s.splits;
      })) s.tree
  best_outcome best b r (inr u) = (
    Done best,
    record { decided = r.decided; are = record { is_best = b; are_decided = r.are }; unsplit = u },
    tt,
  )

  served : (s : Selection) → Serves q.wish.strategy q.catalog (starts_of q) (region_of t) s → HasOutcome q t
  served s h =
      let b = (laws.best q (region_of t) asked (t, is)).1 (s, h) in
      let r = has_releases laws.eligible laws.tried q.catalog asked.requirements (starts_of q) q.wish (region_of t) []
      b.0 b.1 in
      best_outcome b.0 b.1 r (split_or_not laws.trees laws.decide (region_of t) (t, is) r.decided r.spelled)

  -- ---- where nothing serves

  module _ (p : Problem) (of : IsProblemOf q.catalog (starts_of q) q.wish (region_of t) p) (none : HasNone p) where
    refused : IsRefused q t
    refused = (laws.nothing q.catalog (starts_of q) q.wish (region_of t) p of).0 none

    core_outcome : q.wish.strategy ≡ Deep → (core : List CoreNeed) → IsCore p core
        → IsCoreSplitWith q.catalog (region_of t) p core ⊎ HoldsThroughout q.catalog (region_of t) p core
        → HasOutcome q t
    core_outcome deep core k (inl s) = split s.truth
        (inr (record {
          deep = deep;
          problem = p;
          core = core;
          has = record { problem = of; core = k };
          splits = s.splits;
        })) s.tree
    core_outcome deep core k (inr throughout) = (
      Refused tt,
      record {
        refused = refused;
        unsplit = λ e. record {
          problem = p;
          core = core;
          has = record { problem = of; core = k };
          throughout = throughout;
        };
      },
      tt,
    )

    unserved : Decided (q.wish.strategy ≡ Deep) → HasOutcome q t
    unserved (inr other) = (Refused tt, record { refused = refused; unsplit = λ e. absurd (other e) }, tt)
    unserved (inl deep) =
        let core = laws.cores.exists p none in
        core_outcome deep core.0 core.1 (core_splits_or_holds laws.trees laws.decide q.catalog asked.requirements
        (region_of t) (t, is) p core.0)

  outcome : HasOutcome q t
  outcome =
      let p = laws.problem q.catalog (starts_of q) q.wish (region_of t) asked (t, is) in
      elim (places_decided laws.cores p.0) [
        | inl σ ↦ (let s = laws.names q.catalog (starts_of q) q.wish (region_of t) p.0 σ.0 p.1 σ.1 in served s.0 s.3)
        | inr n ↦ unserved p.0 p.1 (λ σ h. n (σ, h)) (deep_or_not q.wish.strategy)
      ]

pub outcome_exists : OutcomeLaws → OutcomeExists
outcome_exists laws q t asked is = outcome laws q t asked is

-- the rounds end, since each region has an outcome
pub fork_answer_exists : OutcomeExists → ForkAnswerExists
fork_answer_exists law q t asked is = forks_end IsRegionTree (IsOutcome q) (λ r may. law q r asked may) t is
