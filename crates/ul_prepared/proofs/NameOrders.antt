-- What is known of a name: its order, by what an old lock has.
use Rattle.std.proofs.Common.{◌≡◌, ◌<◌, ◌^◌, ℕ, List, [], ◌∷◌, ◌++◌, length, map, filter, reverse, cond, not, ◌&&◌, ◌||◌, Bool, true, false, refl, sym, ap, subst, ◌∙◌, bytes_eq}
use Rattle.std.specs.List.{list_any}
use Rattle.std.specs.Ordering.{is_eq}
use Rattle.std.proofs.lemmas.List.{length-map}
use Rattle.ul_version.specs.Fields.{Fields}
use Rattle.ul_version.specs.Order.{version_cmp}
use Rattle.ul_requirement.specs.Fields.{WishFields}
use Rattle.ul_problem.specs.Problems.{Increases, IsOrderOf, VersionBefore}
use Rattle.ul_index.specs.Catalogs.{Packages}
use Rattle.ul_index.specs.Eligible.{eligible}
use Rattle.ul_index.specs.Preference.{is_direct, is_kept, is_oldest_first, preference}
use Rattle.ul_region.specs.Problem.{AreVersionsAt}
use Rattle.ul_prepared.specs.KeptPlaces.{is_on}
use Rattle.ul_prepared.specs.Orders.{order_in, tried_places}
use Rattle.ul_prepared.specs.Prepared.{IsName}
use Rattle.ul_prepared.specs.declared.prepared.NameFacts.{NameFacts}
use Rattle.ul_prepared.proofs.KeptPlaces.{any_reverse}
use Rattle.ul_prepared.proofs.TriedPlaces.{tried_at, tried_whole}

any_map : {A B : Type 0} (f : A → B) (p : B → Bool) (xs : List A) → list_any (λ (x : A). p (f x)) xs ≡ list_any p (map f xs)
any_map f p [] = refl
any_map f p (x ∷ xs) = ap (λ (b : Bool). p (f x) || b) (any_map f p xs)

any_step : (q : Fields → Bool) (k : List ℕ × Fields) (b t : Bool) (ys : List (List ℕ × Fields)) → list_any q (map (λ (j : List ℕ × Fields). j.1) ys) ≡ t → list_any q (map (λ (j : List ℕ × Fields). j.1) (cond b (k ∷ ys) ys)) ≡ ((b && q k.1) || t)
any_step q k true t ys e = ap (λ (u : Bool). q k.1 || u) e
any_step q k false t ys e = e

any_kept : (n : List ℕ) (q : Fields → Bool) (ks : List (List ℕ × Fields)) → list_any q (map (λ (k : List ℕ × Fields). k.1) (filter (λ (k : List ℕ × Fields). bytes_eq k.0 n) ks)) ≡ list_any (λ (k : List ℕ × Fields). bytes_eq k.0 n && q k.1) ks
any_kept n q [] = refl
any_kept n q (k ∷ ks) = any_step q k (bytes_eq k.0 n) (list_any (λ (k : List ℕ × Fields). bytes_eq k.0 n && q k.1) ks) (filter (λ (k : List ℕ × Fields). bytes_eq k.0 n) ks) (any_kept n q ks)

same_map : (p q : Fields → Bool) → ((x : Fields) → p x ≡ q x) → (xs : List Fields) → map p xs ≡ map q xs
same_map p q h [] = refl
same_map p q h (x ∷ xs) = ap (λ (b : Bool). b ∷ map p xs) (h x) ∙ ap (λ (z : List Bool). q x ∷ z) (same_map p q h xs)

preferred : (c : Packages) (wish : WishFields) (n : List ℕ) (vs : List Fields) (oldest : Bool) → vs ≡ eligible c n → oldest ≡ is_oldest_first wish.mode (is_direct c n)
    → filter (is_kept wish n) (reverse vs) ++ filter (λ x. not (is_kept wish n x)) (cond oldest vs (reverse vs)) ≡ preference c wish n
unfolding preference
preferred c wish n vs oldest e o =
    ap (λ (xs : List Fields). filter (is_kept wish n) (reverse xs) ++ filter (λ x. not (is_kept wish n x)) (cond oldest xs (reverse xs))) e
    ∙ ap (λ (b : Bool). filter (is_kept wish n) (reverse (eligible c n)) ++ filter (λ x. not (is_kept wish n x)) (cond b (eligible c n) (reverse (eligible c n)))) o

-- the order in which the versions of a name are tried
pub order_is : {A : Type 0} (now : A → Fields) (c : Packages) (wish : WishFields) (n : List ℕ) (vs : List Fields) (kept : List A) (flags : List Bool) (oldest : Bool) (order : List ℕ)
    → map now kept ≡ reverse (map (λ (k : List ℕ × Fields). k.1) (filter (is_on n) wish.kept))
    → flags ≡ map (λ (x : Fields). list_any (λ (k : A). is_eq (version_cmp (now k) x)) kept) vs → oldest ≡ is_oldest_first wish.mode (is_direct c n) → order ≡ tried_places flags oldest → order ≡ order_in c wish n vs
order_is {A} now c wish n vs kept flags oldest order old flagged way tried =
    let p : Fields → Bool = is_kept wish n in
    let same : (x : Fields) → list_any (λ (k : A). is_eq (version_cmp (now k) x)) kept ≡ is_kept wish n x =
    (λ x. any_map now (λ (y : Fields). is_eq (version_cmp y x)) kept ∙ (ap (λ (z : List Fields). list_any (λ (y : Fields). is_eq (version_cmp y x)) z) old
    ∙ (any_reverse (λ (y : Fields). is_eq (version_cmp y x)) (map (λ (k : List ℕ × Fields). k.1) (filter (is_on n) wish.kept)) ∙ any_kept n (λ (y : Fields). is_eq (version_cmp y x)) wish.kept))) in
    let flags_are : flags ≡ map p vs = flagged ∙ same_map (λ (x : Fields). list_any (λ (k : A). is_eq (version_cmp (now k) x)) kept) p same vs in
    tried ∙ (ap (λ (z : List Bool). tried_places z oldest) flags_are ∙ ap (λ (b : Bool). tried_places (map p vs) b) way)

-- what makes a name's facts right
pub name_is : (c : Packages) (wish : WishFields) (n : List ℕ) (vs : List Fields) (order : List ℕ) (f : NameFacts)
    → f.name ≡ n → f.versions ≡ vs → f.order ≡ order → vs ≡ eligible c n → Increases VersionBefore (eligible c n) → length vs < 2 ^ 32 → order ≡ order_in c wish n vs → IsName c wish f
name_is c wish n vs order f named has ordered are rising few tried =
    let p : Fields → Bool = is_kept wish n in
    let oldest : Bool = is_oldest_first wish.mode (is_direct c n) in
    let order_is : f.order ≡ tried_places (map p vs) oldest = ordered ∙ tried in record {
      versions = has ∙ (are ∙ ap (eligible c) (sym named));
      increasing = subst (Increases VersionBefore) (sym (has ∙ are)) rising;
      few = subst (λ (xs : List Fields). length xs < 2 ^ 32) (sym has) few;
      whole = subst (λ (ks : List ℕ). IsOrderOf (length f.versions) ks) (sym order_is) (subst (λ (m : ℕ). IsOrderOf m (tried_places (map p vs) oldest)) (length-map vs p ∙ ap (λ (z : List Fields). length z) (sym has)) (tried_whole (map p vs) oldest));
      order = subst (λ (xs : List Fields). AreVersionsAt xs f.order (preference c wish f.name)) (sym has) (subst (λ (ks : List ℕ). AreVersionsAt vs ks (preference c wish f.name)) (sym order_is)
          (subst (λ (zs : List Fields). AreVersionsAt vs (tried_places (map p vs) oldest) zs) (preferred c wish n vs oldest are refl ∙ ap (preference c wish) (sym named)) (tried_at vs p oldest)));
    }
