-- What holds somewhere in a region, or throughout it, is decided for truths that have trees: a reduced tree is false,
-- or holds at some world.
use Rattle.std.specs.Prelude.{◌⊎◌, ℕ, List, Contains, Bool, not}
use Rattle.ul_base.specs.declared.node.Node.{Node}
use Rattle.ul_comparison.specs.Worlds.{WorldFields}
use Rattle.ul_requirement.specs.Fields.{IsRequirement, RequirementFields}
use Rattle.ul_requirement.specs.declared.wish.Strategy.{Strategy}
use Rattle.ul_index.specs.Applied.{IsApplied, IsFirm, IsSplitGroup}
use Rattle.ul_index.specs.Regions.{Region, Somewhere, Throughout}
use Rattle.ul_index.specs.Serves.{Suits}
use Rattle.laws_trees.specs.Trees.{HasTree}

-- the statement holds, or it fails
abbrev pub Decided : Type 0 → Type 0
Decided A = A ⊎ (A → ⊥)

-- each requirement of a list has a marker that a text can spell
abbrev pub EachIsRequirement : List RequirementFields → Type 0
EachIsRequirement qs = (q : RequirementFields) → Contains qs q → IsRequirement q

-- what is decided of a region that has a tree
pub record RegionsDecide : Type 0 where
  pub somewhere : (R p : WorldFields → Bool) → HasTree R → HasTree p → Decided (Somewhere R p)
  pub throughout : (R p : WorldFields → Bool) → HasTree R → HasTree p → Throughout R p ⊎ Somewhere R (λ w. not (p w))
  pub suits : (strategy : Strategy) (R p : WorldFields → Bool) → HasTree R → HasTree p → Decided (Suits strategy R p)
  pub applied : (qs : List RequirementFields) (R : Region) (n : Node) (q : RequirementFields) → HasTree R
      → EachIsRequirement qs → Contains qs q → Decided (IsApplied qs R n q)
  pub split : (qs : List RequirementFields) (R : Region) (n : Node) (name : List ℕ) → HasTree R → EachIsRequirement qs
      → Decided (IsSplitGroup qs R n name)
  pub firm : (qs : List RequirementFields) (R : Region) (n : Node) (q : RequirementFields) → HasTree R
      → EachIsRequirement qs → Contains qs q → Decided (IsFirm qs R n q)
