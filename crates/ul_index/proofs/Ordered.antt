-- Versions in increasing order are the same versions.
use Rattle.std.proofs.Common.{◌≡◌, ◌⊎◌, List, [], ◌∷◌, map, Bool, true, false, cond, Contains, inl, inr, ⊎_elim, sym, subst}
use Rattle.std.specs.Ordering.{is_lt}
use Rattle.ul_version.specs.Fields.{Fields}
use Rattle.ul_version.specs.Order.{version_cmp}
use Rattle.ul_requirement.specs.Fields.{ReleaseFields}
use Rattle.ul_index.specs.Eligible.{increasing_with, in_order, passing, eligible}
use Rattle.ul_index.specs.Laws.{EligibleSame}
use Rattle.ul_base.proofs.ForCallers.{contains_first, contains_later, contains_map, none_in}
use Rattle.ul_base.proofs.ForCallers.{contains_cases, contains_from_map}

in_head : (v x u : Fields) (xs ys : List Fields) (b : Bool) → ((u ≡ v) ⊎ Contains xs u → Contains ys u) → (u ≡ v) ⊎ Contains (x ∷ xs) u → Contains (cond b (v ∷ x ∷ xs) (x ∷ ys)) u
in_head v x u xs ys true later (inl e) = subst (Contains (v ∷ x ∷ xs)) (sym e) (contains_first v (x ∷ xs))
in_head v x u xs ys true later (inr m) = contains_later v (x ∷ xs) u m
in_head v x u xs ys false later (inl e) = contains_later x ys u (later (inl e))
in_head v x u xs ys false later (inr m) = ⊎_elim (λ e. subst (Contains (x ∷ ys)) (sym e) (contains_first x ys)) (λ r. contains_later x ys u (later (inr r))) (contains_cases x xs u m)

placed_has : (v u : Fields) (xs : List Fields) → (u ≡ v) ⊎ Contains xs u → Contains (increasing_with v xs) u
placed_has v u [] (inl e) = subst (Contains (v ∷ [])) (sym e) (contains_first v [])
placed_has v u [] (inr m) = absurd (none_in u m)
placed_has v u (x ∷ xs) h = in_head v x u xs (increasing_with v xs) (is_lt (version_cmp v x)) (placed_has v u xs) h

out_head : (v x u : Fields) (xs ys : List Fields) (b : Bool) → (Contains ys u → (u ≡ v) ⊎ Contains xs u) → Contains (cond b (v ∷ x ∷ xs) (x ∷ ys)) u → (u ≡ v) ⊎ Contains (x ∷ xs) u
out_head v x u xs ys true later m = contains_cases v (x ∷ xs) u m
out_head v x u xs ys false later m = ⊎_elim (λ e. inr (subst (Contains (x ∷ xs)) (sym e) (contains_first x xs)))
    (λ r. ⊎_elim inl (λ s. inr (contains_later x xs u s)) (later r)) (contains_cases x ys u m)

placed_from : (v u : Fields) (xs : List Fields) → Contains (increasing_with v xs) u → (u ≡ v) ⊎ Contains xs u
placed_from v u [] m = contains_cases v [] u m
placed_from v u (x ∷ xs) m = out_head v x u xs (increasing_with v xs) (is_lt (version_cmp v x)) (placed_from v u xs) m

order_has : (vs : List Fields) (u : Fields) → Contains vs u → Contains (in_order vs) u
order_has [] u m = absurd (none_in u m)
order_has (v ∷ vs) u m = placed_has v u (in_order vs) (⊎_elim inl (λ r. inr (order_has vs u r)) (contains_cases v vs u m))

pub order_from : (vs : List Fields) (u : Fields) → Contains (in_order vs) u → Contains vs u
order_from [] u m = absurd (none_in u m)
order_from (v ∷ vs) u m = ⊎_elim (λ e. subst (Contains (v ∷ vs)) (sym e) (contains_first v vs)) (λ r. contains_later v vs u (order_from vs u r)) (placed_from v u (in_order vs) m)

pub eligible_same : EligibleSame
unfolding eligible
eligible_same c n v = (
  (λ m. let r = contains_from_map (λ (r : ReleaseFields). r.version) (passing c n) v (order_from (map (λ (r : ReleaseFields). r.version) (passing c n)) v m) in (r.0, r.1, sym r.2)),
  (λ h. order_has (map (λ (r : ReleaseFields). r.version) (passing c n)) v (subst (Contains (map (λ (r : ReleaseFields). r.version) (passing c n))) h.2 (contains_map (λ (r : ReleaseFields). r.version) (passing c n) h.0 h.1))),
)
