-- What becomes of a region of a catalog. Regions are reduced trees, so that two regions of the same worlds are one.
-- The project is a name and its extras, where each selection starts.
use Rattle.std.specs.Prelude.{◌≡◌, ◌⊎◌, ℕ, List, Bool, not, ◌&&◌}
use Rattle.ul_base.specs.declared.node.Node.{Node}
use Rattle.ul_comparison.specs.Worlds.{WorldFields}
use Rattle.ul_requirement.specs.Fields.{WishFields}
use Rattle.ul_requirement.specs.declared.wish.Strategy.TheVariants.{Deep}
use Rattle.ul_nodes.specs.Plain.{Plain}
use Rattle.ul_tree.specs.Regions.{HasTruth, region_of}
use Rattle.ul_problem.specs.Plain.{Plain as Problem}
use Rattle.ul_index.specs.Catalogs.{Packages}
use Rattle.ul_index.specs.Serves.{Selection, Serves}
use Rattle.ul_blame.specs.Core.{IsCore}
use Rattle.ul_blame.specs.declared.needs.CoreNeed.{CoreNeed}
use Rattle.ul_region.specs.Best.{IsBest}
use Rattle.ul_region.specs.Laws.{roots}
use Rattle.ul_region.specs.Problem.{IsProblemOf}
use Rattle.ul_split.specs.CoreSplit.{CoreSplit, HoldsThroughout}
use Rattle.ul_generations.specs.declared.outcomes.Outcome.{Outcome}
use Rattle.ul_generations.specs.declared.outcomes.Outcome.TheVariants.{Done, Split, Refused}
use Rattle.ul_split.specs.Split.{Decided, AreDecided, SplitsBy, IsUnsplit}

-- what is resolved: a catalog, the project's name and extras, and what is wished
pub record Question : Type 0 where
  pub catalog : Packages
  pub name : List ℕ
  pub extras : List (List ℕ)
  pub wish : WishFields

-- where each selection starts
abbrev pub starts_of : Question → List Node
starts_of q = roots q.name q.extras

-- the best selection of the region, with the releases of its decisions
pub record IsDecided (q : Question) (t : Plain) (best : Selection) (decided : List Decided) : Type 0 where
  pub is_best : IsBest q.catalog (starts_of q) q.wish (region_of t) best
  pub are_decided : AreDecided q.catalog best decided

-- nothing serves the region
abbrev pub IsRefused : Question → Plain → Type 0
IsRefused q t = (s : Selection) → Serves q.wish.strategy q.catalog (starts_of q) (region_of t) s → ⊥

-- the region has this best selection, and nothing splits it
pub record IsDone (q : Question) (t : Plain) (best : Selection) : Type 0 where
  pub decided : List Decided
  pub are : IsDecided q t best decided
  pub unsplit : IsUnsplit (region_of t) decided

-- a truth splits the region for the decisions of its best selection
pub record IsSplitByBest (q : Question) (t : Plain) (truth : WorldFields → Bool) : Type 0 where
  pub best : Selection
  pub decided : List Decided
  pub are : IsDecided q t best decided
  pub splits : SplitsBy (region_of t) decided truth

-- the problem of a region that nothing serves, and its core
pub record HasCore (q : Question) (t : Plain) (p : Problem) (needs : List CoreNeed) : Type 0 where
  pub problem : IsProblemOf q.catalog (starts_of q) q.wish (region_of t) p
  pub core : IsCore p needs

-- under `deep` a truth splits a region that nothing serves, by its core
pub record IsSplitByCore (q : Question) (t : Plain) (truth : WorldFields → Bool) : Type 0 where
  pub deep : q.wish.strategy ≡ Deep
  pub problem : Problem
  pub core : List CoreNeed
  pub has : HasCore q t problem core
  pub splits : CoreSplit q.catalog (region_of t) problem core truth

-- the truth by which the region is split
abbrev pub IsSplitBy : Question → Plain → (WorldFields → Bool) → Type 0
IsSplitBy q t truth = IsSplitByBest q t truth ⊎ IsSplitByCore q t truth

-- a truth splits the region: the first is where it is true, the second where it isn't
pub record IsSplit (q : Question) (t first second : Plain) : Type 0 where
  pub truth : WorldFields → Bool
  pub splits : IsSplitBy q t truth
  pub true_in : HasTruth first (λ w. region_of t w && truth w)
  pub false_in : HasTruth second (λ w. region_of t w && not (truth w))

-- the region has a core, which holds throughout it
pub record CoreHolds (q : Question) (t : Plain) : Type 0 where
  pub problem : Problem
  pub core : List CoreNeed
  pub has : HasCore q t problem core
  pub throughout : HoldsThroughout q.catalog (region_of t) problem core

-- no core splits the region: where the strategy is `deep` its core holds throughout
abbrev pub IsUnsplitByCore : Question → Plain → Type 0
IsUnsplitByCore q t = q.wish.strategy ≡ Deep → CoreHolds q t

-- nothing serves the region, and it isn't split further
pub record StaysRefused (q : Question) (t : Plain) : Type 0 where
  pub refused : IsRefused q t
  pub unsplit : IsUnsplitByCore q t

-- an outcome of a tree: with a best selection, with two trees, or refused
abbrev pub TreeOutcome : Type 0
TreeOutcome = Outcome Plain Selection (Unit {0})

-- what becomes of a region
abbrev pub IsOutcome : Question → Plain → TreeOutcome → Type 0
IsOutcome q t (Done best) = IsDone q t best
IsOutcome q t (Split first second) = IsSplit q t first second
IsOutcome q t (Refused u) = StaysRefused q t
