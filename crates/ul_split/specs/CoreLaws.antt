-- The laws of a split by a core.
use Rattle.std.specs.Prelude.{◌≡◌, List, Bool, true, not}
use Rattle.ul_base.specs.declared.node.Node.{Node}
use Rattle.ul_comparison.specs.Worlds.{WorldFields, IsWorld}
use Rattle.ul_requirement.specs.Fields.{WishFields}
use Rattle.ul_requirement.specs.declared.wish.Strategy.TheVariants.{Deep}
use Rattle.ul_problem.specs.Plain.{Plain}
use Rattle.ul_index.specs.Catalogs.{Packages}
use Rattle.ul_index.specs.Regions.{Region, Somewhere}
use Rattle.ul_index.specs.Serves.{Selection}
use Rattle.ul_blame.specs.Core.{IsCore}
use Rattle.ul_blame.specs.declared.needs.CoreNeed.{CoreNeed}
use Rattle.ul_region.specs.Problem.{IsProblemOf}
use Rattle.ul_split.specs.CoreSplit.{CoreSplit, HoldsThroughout}
use Rattle.ul_split.specs.Worlds.{ServesAt}

-- at most one truth splits a region by a core, and where one does the core doesn't hold throughout
pub record CoreSplitOnce : Type 0 where
  pub once : (c : Packages) (R : Region) (p : Plain) (core : List CoreNeed) (f g : WorldFields → Bool)
      → CoreSplit c R p core f → CoreSplit c R p core g → f ≡ g
  pub not_both : (c : Packages) (R : Region) (p : Plain) (core : List CoreNeed) (f : WorldFields → Bool)
      → CoreSplit c R p core f → HoldsThroughout c R p core → ⊥

-- the truth that splits a region by a core holds at some world of it, since its requirement is firm, and fails at some
abbrev pub CoreChildren : Type 0
CoreChildren = (c : Packages) (R : Region) (p : Plain) (core : List CoreNeed) (truth : WorldFields → Bool)
    → CoreSplit c R p core truth → Somewhere R truth × Somewhere R (λ w. not (truth w))

-- where the core of a region holds throughout it, no selection serves a single world of it
abbrev pub NoneAtWorlds : Type 0
NoneAtWorlds = (c : Packages) (starts : List Node) (wish : WishFields) (R : Region) (p : Plain) (core : List CoreNeed)
    → wish.strategy ≡ Deep → IsProblemOf c starts wish R p → IsCore p core → HoldsThroughout c R p core
    → (w : WorldFields) → IsWorld w → R w ≡ true → (s : Selection) → ServesAt c starts w s → ⊥
