-- At most one truth splits a region.
use Rattle.std.proofs.Common.{◌≡◌, List, Bool, inl, inr, sym, ap, subst, ◌∙◌}
use Rattle.ul_base.specs.declared.node.Node.{Node}
use Rattle.ul_base.specs.Kept.{IsFirst}
use Rattle.ul_base.proofs.ForCallers.{first_once, first_holds, first_in}
use Rattle.ul_comparison.specs.Worlds.{WorldFields}
use Rattle.ul_requirement.specs.Fields.{RequirementFields}
use Rattle.ul_requirement.specs.Truth.{applies_at}
use Rattle.ul_index.specs.Regions.{Region}
use Rattle.ul_index.specs.Catalogs.{is_release_fit}
use Rattle.ul_region.specs.Groups.{InSplit, FailsIn, IsParting}
use Rattle.ul_split.specs.Split.{Decided, IsUnfit, HasSplit, SplitsBy, IsUnsplit}
use Rattle.ul_split.specs.Laws.{SplitOnce}

parting_once : (qs : List RequirementFields) (R : Region) (n : Node) (a b : RequirementFields) → IsParting qs R n a → IsParting qs R n b → a ≡ b
parting_once qs R n a b h k = let same : h.opener ≡ k.opener = first_once (InSplit qs R n) qs h.opener k.opener h.first_group k.first_group in
    first_once (FailsIn qs R n k.opener.name) qs a b (subst (λ (q : RequirementFields). IsFirst (FailsIn qs R n q.name) qs a) same h.first_failing) k.first_failing

once : (R : Region) (ds : List Decided) (p q : WorldFields → Bool) → SplitsBy R ds p → SplitsBy R ds q → p ≡ q
once R ds p q (inl h) (inl k) = h.is ∙ (ap (λ (d : Decided). is_release_fit d.release) (first_once (IsUnfit R) ds h.decided k.decided h.first k.first) ∙ sym k.is)
once R ds p q (inl h) (inr k) = absurd (k.fit h.decided (first_in (IsUnfit R) ds h.decided h.first) (first_holds (IsUnfit R) ds h.decided h.first))
once R ds p q (inr h) (inl k) = absurd (h.fit k.decided (first_in (IsUnfit R) ds k.decided k.first) (first_holds (IsUnfit R) ds k.decided k.first))
once R ds p q (inr h) (inr k) = h.is ∙ (by_node (first_once (HasSplit R) ds h.decided k.decided h.first k.first) ∙ sym k.is)
  where
    by_node : h.decided ≡ k.decided → applies_at h.requirement h.decided.node ≡ applies_at k.requirement k.decided.node
    by_node e = let same : h.requirement ≡ k.requirement = parting_once k.decided.release.requirements R k.decided.node h.requirement k.requirement
        (subst (λ (d : Decided). IsParting d.release.requirements R d.node h.requirement) e h.parting) k.parting in
        λ i. applies_at (same i) (e i).node

not_both : (R : Region) (ds : List Decided) (p : WorldFields → Bool) → SplitsBy R ds p → IsUnsplit R ds → ⊥
not_both R ds p (inl h) u = u.fit h.decided (first_in (IsUnfit R) ds h.decided h.first) (first_holds (IsUnfit R) ds h.decided h.first)
not_both R ds p (inr h) u = u.groups h.decided (first_in (HasSplit R) ds h.decided h.first) (first_holds (HasSplit R) ds h.decided h.first)

pub split_once : SplitOnce
split_once = record { once = once; not_both = not_both }
