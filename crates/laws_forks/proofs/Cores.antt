-- The core of a region that nothing serves splits it, or holds throughout it: whether the requirement that a need comes
-- from fails somewhere is decided.
use Rattle.std.specs.Prelude.{Contains}
use Rattle.std.proofs.Common.{◌⊎◌, List, Bool, not, inl, inr, refl, subst}
use Rattle.ul_base.specs.declared.node.Node.{Node}
use Rattle.ul_base.proofs.ForCallers.{first_holds}
use Rattle.ul_comparison.specs.Worlds.{WorldFields}
use Rattle.ul_requirement.specs.Fields.{IsRequirement, RequirementFields}
use Rattle.ul_requirement.specs.Truth.{applies_at}
use Rattle.ul_problem.specs.Plain.{Plain as Problem}
use Rattle.ul_index.specs.Catalogs.{Packages}
use Rattle.ul_index.specs.Regions.{Region, Somewhere}
use Rattle.ul_blame.specs.declared.needs.CoreNeed.{CoreNeed}
use Rattle.ul_split.specs.CoreSplit.{CoreSplit, HoldsThroughout, IsAskedBy, IsFailing}
use Rattle.laws_trees.specs.Decided.{Decided, RegionsDecide}
use Rattle.laws_trees.specs.Trees.{AreRequirements, HasTree, TruthTrees}
use Rattle.laws_trees.proofs.ForCallers.{decided_as}
use Rattle.laws_problems.proofs.ForCallers.{firm_decided}
use Rattle.laws_forks.proofs.Firsts.{FirstOrNone, first_or_none}
use Rattle.laws_forks.proofs.Origins.{OriginOf, asked_listed, origin_of}

-- a truth that splits a region by the core of its problem, with its tree
pub record IsCoreSplitWith (c : Packages) (R : Region) (p : Problem) (core : List CoreNeed) : Type 0 where
  pub truth : WorldFields → Bool
  pub splits : CoreSplit c R p core truth
  pub tree : HasTree truth

module _ (trees : TruthTrees) (decide : RegionsDecide) (c : Packages) (spelled : AreRequirements c) (R : Region)
    (has : HasTree R) (p : Problem) where
  asked_spelled : (k : CoreNeed) (n : Node) (q : RequirementFields) → IsAskedBy c R p k n q → IsRequirement q
  asked_spelled k n q a = spelled n.name a.version q (asked_listed c R p k n q a)

  asked_tree : (k : CoreNeed) (n : Node) (q : RequirementFields) → IsAskedBy c R p k n q → HasTree (applies_at q n)
  asked_tree k n q a = trees.applied q n (asked_spelled k n q a)

  -- the requirement that a need comes from fails somewhere, or it comes from none that does
  failing_from : (k : CoreNeed) → OriginOf c R p k → Decided (IsFailing c R p k)
  failing_from k (inr none) = inr (λ f. none f.node f.requirement f.asked)
  failing_from k (inl o) =
      decided_as
      (decide.somewhere R (λ w. not (applies_at o.requirement o.node w)) has
      (trees.negated (applies_at o.requirement o.node) (asked_tree k o.node o.requirement o.asked)))
      (λ s. record { node = o.node; requirement = o.requirement; asked = o.asked; fails = s })
      (λ f. subst (λ (t : WorldFields → Bool). Somewhere R (λ w. not (t w))) (o.only f.node f.requirement f.asked)
      f.fails)

  failing_decided : (k : CoreNeed) → Decided (IsFailing c R p k)
  failing_decided k = failing_from k (origin_of c R p k (firm_decided c R decide spelled has))

  -- where no need fails, each comes from a requirement that is true throughout
  holds : (core : List CoreNeed) → ((k : CoreNeed) → Contains core k → IsFailing c R p k → ⊥)
      → HoldsThroughout c R p core
  holds core none k n q m a =
      elim (decide.throughout R (applies_at q n) has (asked_tree k n q a)) [
        | inl t ↦ t
        | inr s ↦ absurd (none k m (record { node = n; requirement = q; asked = a; fails = s }))
      ]

  by_first : (core : List CoreNeed) → FirstOrNone (IsFailing c R p) core
      → IsCoreSplitWith c R p core ⊎ HoldsThroughout c R p core
  by_first core (inr none) = inr (holds core none)
  by_first core (inl f) =
      let found = first_holds (IsFailing c R p) core f.0 f.1 in
      inl (record {
        truth = applies_at found.requirement found.node;
        splits = record {
          need = f.0;
          first = f.1;
          node = found.node;
          requirement = found.requirement;
          asked = found.asked;
          is = refl;
        };
        tree = asked_tree f.0 found.node found.requirement found.asked;
      })

  -- the core splits the region, or it holds throughout
  pub core_splits_or_holds : (core : List CoreNeed) → IsCoreSplitWith c R p core ⊎ HoldsThroughout c R p core
  core_splits_or_holds core =
      by_first core (first_or_none (IsFailing c R p) core (λ k m. failing_decided k))
