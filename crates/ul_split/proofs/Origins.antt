-- Which requirement the need at a place comes from: at most one; as a loop finds it; and what the need then aims at.
use Rattle.std.specs.Prelude.{◌↔◌, slice_get, Contains, flat_map, filter, cond}
use Rattle.std.proofs.Common.{◌≡◌, ◌⊎◌, ◌<◌, ◌≤◌, ◌+◌, ◌∙◌, ℕ, zero, suc, List, [], ◌∷◌, ◌++◌, length, map, drop, get_or, Bool, true, false, Some, inl, inr, refl, sym, ap, subst, arith, ⊎_elim}
use Rattle.std.proofs.lemmas.List.{drop_all, drop_more}
use Rattle.std.proofs.lemmas.Option.{none-some, same_Some}
use Rattle.ul_base.specs.Kept.{Kept}
use Rattle.ul_base.specs.declared.node.Node.{Node}
use Rattle.ul_base.proofs.ForCallers.{at_map, long_map, contains_first, contains_later}
use Rattle.ul_requirement.specs.Fields.{RequirementFields}
use Rattle.ul_requirement.specs.Truth.{targets}
use Rattle.ul_region.specs.Best.{Need, needs_of}
use Rattle.ul_split.specs.Origins.{ComesFrom}

module _ (P : RequirementFields → Type 0) where
  pub comes_once : (qs : List RequirementFields) (place : ℕ) (q r : RequirementFields) → ComesFrom P qs place q → ComesFrom P qs place r → q ≡ r
  comes_once [] place q r h k = absurd h
  comes_once (x ∷ xs) place q r (inl h) (inl k) = h.is ∙ sym k.is
  comes_once (x ∷ xs) place q r (inl h) (inr (inl k)) = absurd (omega (arith, h.own, k.past))
  comes_once (x ∷ xs) place q r (inl h) (inr (inr k)) = absurd (k.fails h.counts)
  comes_once (x ∷ xs) place q r (inr (inl h)) (inl k) = absurd (omega (arith, k.own, h.past))
  comes_once (x ∷ xs) place q r (inr (inl h)) (inr (inl k)) = comes_once xs h.behind q r h.later
      (subst (λ (n : ℕ). ComesFrom P xs n r) (let same : k.behind ≡ h.behind = omega (arith, h.past, k.past) in same) k.later)
  comes_once (x ∷ xs) place q r (inr (inl h)) (inr (inr k)) = absurd (k.fails h.counts)
  comes_once (x ∷ xs) place q r (inr (inr h)) (inl k) = absurd (h.fails k.counts)
  comes_once (x ∷ xs) place q r (inr (inr h)) (inr (inl k)) = absurd (h.fails k.counts)
  comes_once (x ∷ xs) place q r (inr (inr h)) (inr (inr k)) = comes_once xs place q r h.later k.later

  -- what a need comes from is one of the requirements, and counts
  pub comes_counts : (qs : List RequirementFields) (place : ℕ) (q : RequirementFields) → ComesFrom P qs place q → P q
  comes_counts [] place q h = absurd h
  comes_counts (x ∷ xs) place q (inl h) = subst P (sym h.is) h.counts
  comes_counts (x ∷ xs) place q (inr (inl h)) = comes_counts xs h.behind q h.later
  comes_counts (x ∷ xs) place q (inr (inr h)) = comes_counts xs place q h.later

  -- ---- over a list, and over the part of it that has all that count

  module _ (f : RequirementFields → Bool) (all : (q : RequirementFields) → f q ≡ false → P q → ⊥) where
    lean_first : (x : RequirementFields) (xs : List RequirementFields) → ((place : ℕ) (q : RequirementFields) → ComesFrom P xs place q → ComesFrom P (filter f xs) place q) → (b : Bool) → f x ≡ b → (place : ℕ) (q : RequirementFields)
        → ComesFrom P (x ∷ xs) place q → ComesFrom P (cond b (x ∷ filter f xs) (filter f xs)) place q
    lean_first x xs more true e place q (inl h) = inl h
    lean_first x xs more true e place q (inr (inl h)) = inr (inl (record { counts = h.counts; behind = h.behind; past = h.past; later = more h.behind q h.later }))
    lean_first x xs more true e place q (inr (inr h)) = inr (inr (record { fails = h.fails; later = more place q h.later }))
    lean_first x xs more false e place q (inl h) = absurd (all x e h.counts)
    lean_first x xs more false e place q (inr (inl h)) = absurd (all x e h.counts)
    lean_first x xs more false e place q (inr (inr h)) = more place q h.later

    pub comes_lean : (qs : List RequirementFields) (place : ℕ) (q : RequirementFields) → ComesFrom P qs place q → ComesFrom P (filter f qs) place q
    comes_lean [] place q h = absurd h
    comes_lean (x ∷ xs) place q h = lean_first x xs (comes_lean xs) (f x) refl place q h

    whole_first : (x : RequirementFields) (xs : List RequirementFields) → ((place : ℕ) (q : RequirementFields) → ComesFrom P (filter f xs) place q → ComesFrom P xs place q) → (b : Bool) → f x ≡ b → (place : ℕ) (q : RequirementFields)
        → ComesFrom P (cond b (x ∷ filter f xs) (filter f xs)) place q → ComesFrom P (x ∷ xs) place q
    whole_first x xs more true e place q (inl h) = inl h
    whole_first x xs more true e place q (inr (inl h)) = inr (inl (record { counts = h.counts; behind = h.behind; past = h.past; later = more h.behind q h.later }))
    whole_first x xs more true e place q (inr (inr h)) = inr (inr (record { fails = h.fails; later = more place q h.later }))
    whole_first x xs more false e place q h = inr (inr (record { fails = all x e; later = more place q h }))

    pub comes_whole : (qs : List RequirementFields) (place : ℕ) (q : RequirementFields) → ComesFrom P (filter f qs) place q → ComesFrom P qs place q
    comes_whole [] place q h = absurd h
    comes_whole (x ∷ xs) place q h = whole_first x xs (comes_whole xs) (f x) refl place q h

  -- ---- in a loop

  -- the need at the place is the one at a place of what is left
  abbrev pub IsLeft : List RequirementFields → ℕ → ℕ → ℕ → Type 0
  IsLeft qs place i left = (q : RequirementFields) → ComesFrom P qs place q ↔ ComesFrom P (drop i qs) left q

  -- one that doesn't count
  skipped : (x : RequirementFields) (xs : List RequirementFields) (left : ℕ) (q : RequirementFields) → (P x → ⊥) → ComesFrom P (x ∷ xs) left q → ComesFrom P xs left q
  skipped x xs left q n (inl h) = absurd (n h.counts)
  skipped x xs left q n (inr (inl h)) = absurd (n h.counts)
  skipped x xs left q n (inr (inr h)) = h.later

  -- one that counts, with its needs before the place
  passed : (x : RequirementFields) (xs : List RequirementFields) (left behind : ℕ) (q : RequirementFields) → P x → left ≡ length (targets x) + behind → ComesFrom P (x ∷ xs) left q → ComesFrom P xs behind q
  passed x xs left behind q p e (inl h) = absurd (omega (arith, h.own, e))
  passed x xs left behind q p e (inr (inl h)) = subst (λ (n : ℕ). ComesFrom P xs n q) (let same : h.behind ≡ behind = omega (arith, h.past, e) in same) h.later
  passed x xs left behind q p e (inr (inr h)) = absurd (h.fails p)

  module _ (qs : List RequirementFields) (place i : ℕ) (x : RequirementFields) (at : drop i qs ≡ x ∷ drop (i + 1) qs) where
    pub left_skipped : (left : ℕ) → (P x → ⊥) → IsLeft qs place i left → IsLeft qs place (i + 1) left
    left_skipped left n h q = (
      λ k. skipped x (drop (i + 1) qs) left q n (subst (λ (l : List RequirementFields). ComesFrom P l left q) at ((h q).0 k)),
      λ k. (h q).1 (subst (λ (l : List RequirementFields). ComesFrom P l left q) (sym at) (inr (inr (record { fails = n; later = k })))),
    )

    pub left_passed : (left behind : ℕ) → P x → left ≡ length (targets x) + behind → IsLeft qs place i left → IsLeft qs place (i + 1) behind
    left_passed left behind p e h q = (
      λ k. passed x (drop (i + 1) qs) left behind q p e (subst (λ (l : List RequirementFields). ComesFrom P l left q) at ((h q).0 k)),
      λ k. (h q).1 (subst (λ (l : List RequirementFields). ComesFrom P l left q) (sym at) (inr (inl (record { counts = p; behind = behind; past = e; later = k })))),
    )

    pub left_here : (left : ℕ) → P x → left < length (targets x) → IsLeft qs place i left → ComesFrom P qs place x
    left_here left p l h = (h x).1 (subst (λ (l : List RequirementFields). ComesFrom P l left x) (sym at) (inl (record { counts = p; own = l; is = refl })))

  pub left_none : (qs : List RequirementFields) (place i left : ℕ) → length qs ≤ i → IsLeft qs place i left → (q : RequirementFields) → ComesFrom P qs place q → ⊥
  left_none qs place i left l h q k = subst (λ (xs : List RequirementFields). ComesFrom P xs left q) (drop_all i qs l) ((h q).0 k)

-- a mapped list from a place on
pub rest_mapped : {A B : Type 0} (f : A → B) (xs : List A) (i : ℕ) (x : A) → i < length xs → x ≡ get_or xs i x → drop i (map f xs) ≡ f x ∷ drop (i + 1) (map f xs)
rest_mapped f xs i x l e = drop_more (map f xs) i (f x) (subst (λ (n : ℕ). i < n) (sym (long_map f xs)) l) ∙ ap (λ z. z ∷ drop (i + 1) (map f xs)) (at_map f xs i x ∙ ap f (sym e))

-- ---- what a need aims at

-- the need of a target
abbrev pub need_on : RequirementFields → Node → Need
need_on q t = record { node = t; specifiers = q.specifiers }

-- what stands at a place of needs, and then of others
own_or_behind : (q : RequirementFields) (ts : List Node) (rest : List Need) (i : ℕ) (t : Need) → slice_get (map (need_on q) ts ++ rest) i ≡ Some t
    → ((i < length ts) × ((a : Node) × Contains ts a × (t ≡ need_on q a))) ⊎ ((j : ℕ) × (i ≡ length ts + j) × (slice_get rest j ≡ Some t))
own_or_behind q [] rest i t e = inr (i, omega arith, e)
own_or_behind q (a ∷ ts) rest zero t e = inl (omega arith, (a, contains_first a ts, sym (same_Some (need_on q a) t e)))
own_or_behind q (a ∷ ts) rest (suc i) t e = ⊎_elim
    (λ h. let l = h.0 in inl (omega (arith, l), (h.1.0, contains_later a ts h.1.0 h.1.1, h.1.2)))
    (λ h. let l = h.1 in inr (h.0, omega (arith, l), h.2)) (own_or_behind q ts rest i t e)

-- a need of firm requirements comes from one, and aims at one of its targets
pub record HasOrigin (P : RequirementFields → Type 0) (qs : List RequirementFields) (i : ℕ) (t : Need) : Type 0 where
  pub requirement : RequirementFields
  pub target : Node
  pub from : ComesFrom P qs i requirement
  pub aimed : Contains (targets requirement) target
  pub is : t ≡ need_on requirement target

pub has_origin : (P : RequirementFields → Type 0) (qs firm : List RequirementFields) (i : ℕ) (t : Need) → Kept P qs firm → slice_get (flat_map needs_of firm) i ≡ Some t → HasOrigin P qs i t
has_origin P [] firm i t h e = absurd (none-some t (subst (λ (l : List RequirementFields). slice_get (flat_map needs_of l) i ≡ Some t) h e))
has_origin P (r ∷ rs) firm i t (inl h) e = ⊎_elim
    (λ own. record { requirement = r; target = own.1.0; from = inl (record { counts = h.holds; own = own.0; is = refl }); aimed = own.1.1; is = own.1.2 })
    (λ behind. let o = has_origin P rs h.rest behind.0 t h.more behind.2 in
    record { requirement = o.requirement; target = o.target; from = inr (inl (record { counts = h.holds; behind = behind.0; past = behind.1; later = o.from })); aimed = o.aimed; is = o.is })
    (own_or_behind r (targets r) (flat_map needs_of h.rest) i t (subst (λ (l : List RequirementFields). slice_get (flat_map needs_of l) i ≡ Some t) h.is e))
has_origin P (r ∷ rs) firm i t (inr h) e = let o = has_origin P rs firm i t h.more e in
    record { requirement = o.requirement; target = o.target; from = inr (inr (record { fails = h.fails; later = o.from })); aimed = o.aimed; is = o.is }
