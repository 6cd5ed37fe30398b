-- Members of lists that are mapped, joined, kept and searched.
use Rattle.std.proofs.Common.{◌≡◌, ◌⊎◌, ℕ, zero, suc, ◌<◌, List, [], ◌∷◌, map, length, get_or, flat_map, find, cond, Bool, true, false, Some, None, Contains, refl, sym, ap, ◌∙◌, subst, inl, inr, ⊎_elim, arith}
use Rattle.std.proofs.lemmas.List.Elements.{Contains-append_left, Contains-append_right, Contains-append_cases}
use Rattle.ul_base.specs.Kept.{Kept}
use Rattle.ul_base.proofs.Lists.{contains_first, contains_later, none_in}

cases_at : {A : Type 0} (y : A) (ys : List A) (x : A) (k : ℕ) → k < length (y ∷ ys) → get_or (y ∷ ys) k x ≡ x → (x ≡ y) ⊎ Contains ys x
cases_at y ys x zero h e = inl (sym e)
cases_at y ys x (suc k) h e = inr (k, omega arith, e)

-- what stands in a list is its first element or stands in the rest
pub contains_cases : {A : Type 0} (y : A) (ys : List A) (x : A) → Contains (y ∷ ys) x → (x ≡ y) ⊎ Contains ys x
contains_cases y ys x h = cases_at y ys x h.0 h.1 h.2

-- what stands in a mapped list is the image of an element
pub contains_from_map : {A B : Type 0} (f : A → B) (xs : List A) (y : B) → Contains (map f xs) y → (x : A) × Contains xs x × (y ≡ f x)
contains_from_map f [] y h = absurd (none_in y h)
contains_from_map {A = A} f (x ∷ xs) y h = from_rest (contains_from_map f xs y) (contains_cases (f x) (map f xs) y h)
  where
    from_rest : (Contains (map f xs) y → (x : A) × Contains xs x × (y ≡ f x)) → (y ≡ f x) ⊎ Contains (map f xs) y → (z : A) × Contains (x ∷ xs) z × (y ≡ f z)
    from_rest later (inl e) = (x, contains_first x xs, e)
    from_rest later (inr m) = let found = later m in (found.0, contains_later x xs found.0 found.1, found.2)

-- what stands in the image of an element stands in the joined list
pub contains_flat : {A B : Type 0} (f : A → List B) (xs : List A) (x : A) (y : B) → Contains xs x → Contains (f x) y → Contains (flat_map f xs) y
contains_flat f [] x y h m = absurd (none_in x h)
contains_flat f (z ∷ zs) x y h m = ⊎_elim (λ e. Contains-append_left (f z) (flat_map f zs) y (subst (λ a. Contains (f a) y) e m))
    (λ r. Contains-append_right (f z) (flat_map f zs) y (contains_flat f zs x y r m)) (contains_cases z zs x h)

-- what stands in the joined list stands in the image of an element
pub contains_from_flat : {A B : Type 0} (f : A → List B) (xs : List A) (y : B) → Contains (flat_map f xs) y → (x : A) × Contains xs x × Contains (f x) y
contains_from_flat f [] y h = absurd (none_in y h)
contains_from_flat {A = A} f (x ∷ xs) y h = from_rest (contains_from_flat f xs y) (Contains-append_cases (f x) (flat_map f xs) y h)
  where
    from_rest : (Contains (flat_map f xs) y → (x : A) × Contains xs x × Contains (f x) y) → Contains (f x) y ⊎ Contains (flat_map f xs) y → (z : A) × Contains (x ∷ xs) z × Contains (f z) y
    from_rest later (inl m) = (x, contains_first x xs, m)
    from_rest later (inr m) = let found = later m in (found.0, contains_later x xs found.0 found.1, found.2)

-- an element at which P holds is kept
pub kept_has : {A : Type 0} (P : A → Type 0) (xs ys : List A) (x : A) → Kept P xs ys → Contains xs x → P x → Contains ys x
kept_has P [] ys x h m p = absurd (none_in x m)
kept_has P (z ∷ zs) ys x (inl h) m p = subst (λ l. Contains l x) (sym h.is)
    (⊎_elim (λ e. subst (λ a. Contains (z ∷ h.rest) a) (sym e) (contains_first z h.rest)) (λ r. contains_later z h.rest x (kept_has P zs h.rest x h.more r p)) (contains_cases z zs x m))
kept_has P (z ∷ zs) ys x (inr h) m p = ⊎_elim (λ e. absurd (h.fails (subst P e p))) (λ r. kept_has P zs ys x h.more r p) (contains_cases z zs x m)

-- P holds at each element that is kept
pub kept_from : {A : Type 0} (P : A → Type 0) (xs ys : List A) (y : A) → Kept P xs ys → Contains ys y → P y
kept_from P [] ys y h m = absurd (none_in y (subst (λ l. Contains l y) h m))
kept_from P (z ∷ zs) ys y (inl h) m = ⊎_elim (λ e. subst P (sym e) h.holds) (λ r. kept_from P zs h.rest y h.more r) (contains_cases z h.rest y (subst (λ l. Contains l y) h.is m))
kept_from P (z ∷ zs) ys y (inr h) m = kept_from P zs ys y h.more m

found_now : {A : Type 0} (test : A → Bool) (z x : A) (zs : List A) (b : Bool) → (find test zs ≡ Some x → Contains zs x) → cond b (Some z) (find test zs) ≡ Some x → Contains (z ∷ zs) x
found_now test z x zs true later e = let same : z ≡ x = cc in subst (λ a. Contains (z ∷ zs) a) same (contains_first z zs)
found_now test z x zs false later e = contains_later z zs x (later e)

-- what a search finds stands in the list
pub found_in : {A : Type 0} (test : A → Bool) (xs : List A) (x : A) → find test xs ≡ Some x → Contains xs x
found_in test [] x e = cc
found_in test (z ∷ zs) x e = found_now test z x zs (test z) (found_in test zs x) e

none_now : {A : Type 0} (test : A → Bool) (z x : A) (zs : List A) (b : Bool) → test z ≡ b → (find test zs ≡ None → Contains zs x → test x ≡ false) → cond b (Some z) (find test zs) ≡ None → Contains (z ∷ zs) x → test x ≡ false
none_now test z x zs true t later e m = cc
none_now test z x zs false t later e m = ⊎_elim (λ s. ap test s ∙ t) (later e) (contains_cases z zs x m)

-- where a search finds nothing, each element fails the test
pub none_found : {A : Type 0} (test : A → Bool) (xs : List A) (x : A) → find test xs ≡ None → Contains xs x → test x ≡ false
none_found test [] x e m = absurd (none_in x m)
none_found test (z ∷ zs) x e m = none_now test z x zs (test z) refl (none_found test zs x) e m
