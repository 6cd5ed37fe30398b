-- The requirements that a row has, and all of the release: the others are never firm.
use Rattle.std.proofs.Common.{◌≡◌, List, [], ◌∷◌, Bool, true, false, cond, filter, refl, inl, inr}
use Rattle.ul_base.specs.Kept.{Kept}
use Rattle.ul_base.specs.declared.node.Node.{Node}
use Rattle.ul_requirement.specs.Fields.{RequirementFields}
use Rattle.ul_requirement.specs.Laws.{UnnamedNeverApplies}
use Rattle.ul_requirement.specs.Truth.{may_apply}
use Rattle.ul_index.specs.Applied.{IsFirm}
use Rattle.ul_index.specs.Regions.{Region}
use Rattle.ul_region.specs.Rows.{asked_at}

-- one that may not be true at the node isn't firm
never_firm : UnnamedNeverApplies → (qs : List RequirementFields) (R : Region) (n : Node) (q : RequirementFields) → may_apply q n ≡ false → IsFirm qs R n q → ⊥
never_firm law qs R n q e firm = let s = firm.applied.somewhere in let holds = s.3 in let never = law q n s.0 e in cc

module _ {A : Type 0} (P : A → Type 0) (test : A → Bool) (none : (x : A) → test x ≡ false → P x → ⊥) where
  kept_first : (x : A) (xs ys : List A) → ((zs : List A) → Kept P (filter test xs) zs → Kept P xs zs) → (b : Bool) → test x ≡ b → Kept P (cond b (x ∷ filter test xs) (filter test xs)) ys → Kept P (x ∷ xs) ys
  kept_first x xs ys more true e (inl h) = inl (record { holds = h.holds; rest = h.rest; is = h.is; more = more h.rest h.more })
  kept_first x xs ys more true e (inr h) = inr (record { fails = h.fails; more = more ys h.more })
  kept_first x xs ys more false e h = inr (record { fails = none x e; more = more ys h })

  -- what is kept of the elements that pass a test is kept of all, where the others aren't such
  kept_whole : (xs ys : List A) → Kept P (filter test xs) ys → Kept P xs ys
  kept_whole [] ys h = h
  kept_whole (x ∷ xs) ys h = kept_first x xs ys (kept_whole xs) (test x) refl h

-- the firm ones among the asked are the firm ones of the release
pub firm_kept : UnnamedNeverApplies → (qs : List RequirementFields) (R : Region) (n : Node) (firm : List RequirementFields) → Kept (IsFirm qs R n) (asked_at n qs) firm → Kept (IsFirm qs R n) qs firm
firm_kept law qs R n firm h = kept_whole (IsFirm qs R n) (λ (q : RequirementFields). may_apply q n) (never_firm law qs R n) qs firm h
