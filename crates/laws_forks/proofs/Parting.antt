-- A region with a tree is split by the decisions of its best selection, or it isn't: what isn't fit throughout, what
-- has a split group and which requirement parts the region are decided.
use Rattle.std.specs.Prelude.{Contains}
use Rattle.std.proofs.Common.{◌⊎◌, ℕ, List, Bool, not, inl, inr, refl, sym, subst}
use Rattle.std.proofs.lemmas.Bool.{and_parts}
use Rattle.ul_base.specs.declared.node.Node.{Node}
use Rattle.ul_base.specs.Kept.{IsFirst}
use Rattle.ul_base.proofs.ForCallers.{first_holds, first_in}
use Rattle.ul_comparison.specs.Worlds.{WorldFields}
use Rattle.ul_requirement.specs.Fields.{RequirementFields}
use Rattle.ul_requirement.specs.Truth.{applies_at}
use Rattle.ul_index.specs.Applied.{IsSplitGroup}
use Rattle.ul_index.specs.Catalogs.{is_release_fit}
use Rattle.ul_index.specs.Regions.{Region, Somewhere}
use Rattle.ul_region.specs.Groups.{FailsIn, InSplit, IsParting}
use Rattle.ul_split.specs.Split.{Decided, HasSplit, IsUnfit, IsUnsplit, SplitsBy}
use Rattle.laws_trees.specs.Decided.{Decided as Known, EachIsRequirement, RegionsDecide}
use Rattle.laws_trees.specs.Trees.{HasTree, TruthTrees}
use Rattle.laws_trees.proofs.ForCallers.{both_decided, decided_as, text_decided}
use Rattle.laws_forks.proofs.Firsts.{FirstOrNone, first_or_none}

-- a truth that splits a region, with its tree
pub record IsSplitWith (R : Region) (ds : List Decided) : Type 0 where
  pub truth : WorldFields → Bool
  pub splits : SplitsBy R ds truth
  pub tree : HasTree truth

module _ (trees : TruthTrees) (decide : RegionsDecide) (R : Region) (has : HasTree R) where
  -- ---- the first requirement of the first split group that fails somewhere

  module _ (qs : List RequirementFields) (n : Node) (spelled : EachIsRequirement qs) where
    in_split_decided : (q : RequirementFields) → Contains qs q → Known (InSplit qs R n q)
    in_split_decided q m =
        both_decided (decide.applied qs R n q has spelled m) (decide.split qs R n q.name has spelled)

    fails_decided : (q : RequirementFields) → Contains qs q → Known (Somewhere R (λ w. not (applies_at q n w)))
    fails_decided q m = decide.somewhere R (λ w. not (applies_at q n w)) has
        (trees.negated (applies_at q n) (trees.applied q n (spelled q m)))

    fails_in_decided : (name : List ℕ) (q : RequirementFields) → Contains qs q → Known (FailsIn qs R n name q)
    fails_in_decided name q m =
        decided_as
        (both_decided (decide.applied qs R n q has spelled m)
        (both_decided (text_decided q.name name) (fails_decided q m)))
        (λ h. record { applied = h.0; named = h.1.0; fails = h.1.1 }) (λ f. (f.applied, (f.named, f.fails)))

    -- a split group has a requirement that fails somewhere: where the one is true and the other isn't
    group_fails : (name : List ℕ) (g : IsSplitGroup qs R n name) → FailsIn qs R n name g.other
    group_fails name g = record {
      applied = g.other_applied;
      named = g.other_named;
      fails = (
        g.apart.0,
        g.apart.1,
        g.apart.2,
        (and_parts (applies_at g.one n g.apart.0)
            (not (applies_at g.other n g.apart.0)) g.apart.3).1,
      );
    }

    parting_from : (o : RequirementFields) → IsFirst (InSplit qs R n) qs o → FirstOrNone (FailsIn qs R n o.name) qs
        → (q : RequirementFields) × IsParting qs R n q
    parting_from o f (inl r) = (r.0, record { opener = o; first_group = f; first_failing = r.1 })
    parting_from o f (inr none) =
        let g = (first_holds (InSplit qs R n) qs o f).1 in
        absurd (none g.other g.other_applied.listed (group_fails o.name g))

    opened : (name : List ℕ) → IsSplitGroup qs R n name → FirstOrNone (InSplit qs R n) qs
        → (q : RequirementFields) × IsParting qs R n q
    opened name g (inl o) =
        parting_from o.0 o.1 (first_or_none (FailsIn qs R n o.0.name) qs (fails_in_decided o.0.name))
    opened name g (inr none) = absurd (none g.one g.one_applied.listed
        (g.one_applied, subst (λ (x : List ℕ). IsSplitGroup qs R n x) (sym g.one_named) g))

    parting : (name : List ℕ) → IsSplitGroup qs R n name → (q : RequirementFields) × IsParting qs R n q
    parting name g = opened name g (first_or_none (InSplit qs R n) qs in_split_decided)

    -- what parts the region is one of the requirements
    parting_listed : (q : RequirementFields) → IsParting qs R n q → Contains qs q
    parting_listed q h = first_in (FailsIn qs R n h.opener.name) qs q h.first_failing

    -- those on its name are a split group
    abbrev HasGroup : RequirementFields → Type 0
    HasGroup q = IsSplitGroup qs R n q.name

    -- some name has a split group: that of a requirement
    names_from : FirstOrNone HasGroup qs → Known ((name : List ℕ) × IsSplitGroup qs R n name)
    names_from (inl f) = inl (f.0.name, first_holds HasGroup qs f.0 f.1)
    names_from (inr none) = inr (λ h. none h.1.one h.1.one_applied.listed
        (subst (λ (x : List ℕ). IsSplitGroup qs R n x) (sym h.1.one_named) h.1))

    names_decided : Known ((name : List ℕ) × IsSplitGroup qs R n name)
    names_decided = names_from (first_or_none HasGroup qs (λ q m. decide.split qs R n q.name has spelled))

  -- ---- the truth that splits the region

  unfit_decided : (d : Decided) → Known (IsUnfit R d)
  unfit_decided d = decide.somewhere R (λ w. not (is_release_fit d.release w)) has
      (trees.negated (is_release_fit d.release) (trees.release d.release))

  module _ (ds : List Decided)
      (spelled : (d : Decided) → Contains ds d → EachIsRequirement d.release.requirements) where
    by_groups : ((d : Decided) → Contains ds d → IsUnfit R d → ⊥) → FirstOrNone (HasSplit R) ds
        → IsSplitWith R ds ⊎ IsUnsplit R ds
    by_groups fit (inr none) = inr (record { fit = fit; groups = none })
    by_groups fit (inl f) =
        let d = f.0 in
        let own = spelled d (first_in (HasSplit R) ds d f.1) in
        let group = first_holds (HasSplit R) ds d f.1 in
        let r = parting d.release.requirements d.node own group.0 group.1 in
        inl (record {
          truth = applies_at r.0 d.node;
          splits = inr (record { fit = fit; decided = d; first = f.1; requirement = r.0; parting = r.1; is = refl });
          tree = trees.applied r.0 d.node (own r.0 (parting_listed d.release.requirements d.node own r.0 r.1));
        })

    by_fit : FirstOrNone (IsUnfit R) ds → IsSplitWith R ds ⊎ IsUnsplit R ds
    by_fit (inl f) = inl (record {
      truth = is_release_fit f.0.release;
      splits = inl (record { decided = f.0; first = f.1; is = refl });
      tree = trees.release f.0.release;
    })
    by_fit (inr none) = by_groups none
        (first_or_none (HasSplit R) ds (λ d m. names_decided d.release.requirements d.node (spelled d m)))

    -- some truth splits the region, or nothing does
    pub split_or_not : IsSplitWith R ds ⊎ IsUnsplit R ds
    split_or_not = by_fit (first_or_none (IsUnfit R) ds (λ d m. unfit_decided d))
