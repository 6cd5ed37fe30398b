-- The first tree that isn't printed, as a program goes over lists.
use Rattle.std.proofs.Common.{◌≡◌, ℕ, suc, ◌+◌, ◌<◌, ◌≤◌, List, [], ◌∷◌, ◌++◌, length, drop, get_or, drop-cons, add-one, refl, sym, ap, ◌∙◌, Option, Some, None}
use Rattle.std.specs.Prelude.{flat_map}
use Rattle.std.proofs.lemmas.List.{drop_all}
use Rattle.ul_nodes.specs.Plain.{Plain}
use Rattle.ul_lock_write.specs.Markers.{over, or_else, first_over}

or_assoc : (a b c : Option ℕ) → or_else (or_else a b) c ≡ or_else a (or_else b c)
or_assoc None b c = refl
or_assoc (Some p) b c = refl

pub over_join : (xs ys : List Plain) → first_over (xs ++ ys) ≡ or_else (first_over xs) (first_over ys)
unfolding first_over
over_join [] ys = refl
over_join (x ∷ xs) ys = ap (or_else (over x)) (over_join xs ys) ∙ sym (or_assoc (over x) (first_over xs) (first_over ys))

pub over_one : (t : Plain) → first_over (t ∷ []) ≡ over t
unfolding first_over
over_one t = by_cases (over t)
  where
    by_cases : (o : Option ℕ) → or_else o None ≡ o
    by_cases None = refl
    by_cases (Some p) = refl

pub over_none : first_over [] ≡ None
unfolding first_over
over_none = refl

-- behind a front without such a tree
pub join_none : (xs ys : List Plain) (p : Option ℕ) → first_over xs ≡ None → first_over ys ≡ p → first_over (xs ++ ys) ≡ p
join_none xs ys p e f = over_join xs ys ∙ (ap (λ o. or_else o (first_over ys)) e ∙ f)

pub join_some : (xs ys : List Plain) (p : ℕ) → first_over xs ≡ Some p → first_over (xs ++ ys) ≡ Some p
join_some xs ys p e = over_join xs ys ∙ ap (λ o. or_else o (first_over ys)) e

-- what is left of a list, with its first element
step : {X : Type 0} (f : X → List Plain) (xs : List X) (i : ℕ) (x : X) → i < length xs → x ≡ get_or xs i x
    → first_over (flat_map f (drop i xs)) ≡ or_else (first_over (f x)) (first_over (flat_map f (drop (i + 1) xs)))
step f xs i x h e = ap (λ z. first_over (flat_map f z)) (drop_here xs i x h e) ∙ over_join (f x) (flat_map f (drop (i + 1) xs))
  where
    drop_here : {X : Type 0} (xs : List X) (i : ℕ) (x : X) → i < length xs → x ≡ get_or xs i x → drop i xs ≡ x ∷ drop (i + 1) xs
    drop_here xs i x h e = rw (add-one, drop-cons xs i x) (ap (λ z. z ∷ drop (suc i) xs) (sym e))

-- an element without such a tree is passed
pub over_on : {X : Type 0} (f : X → List Plain) (xs : List X) (i : ℕ) (x : X) (all : Option ℕ) → i < length xs → x ≡ get_or xs i x → first_over (f x) ≡ None
    → first_over (flat_map f (drop i xs)) ≡ all → first_over (flat_map f (drop (i + 1) xs)) ≡ all
over_on f xs i x all h e n a = sym (ap (λ o. or_else o (first_over (flat_map f (drop (i + 1) xs)))) n) ∙ (sym (step f xs i x h e) ∙ a)

-- an element with such a tree is the first
pub over_here : {X : Type 0} (f : X → List Plain) (xs : List X) (i : ℕ) (x : X) (all : Option ℕ) (p : ℕ) → i < length xs → x ≡ get_or xs i x → first_over (f x) ≡ Some p
    → first_over (flat_map f (drop i xs)) ≡ all → Some p ≡ all
over_here f xs i x all p h e n a = sym (step f xs i x h e ∙ ap (λ o. or_else o (first_over (flat_map f (drop (i + 1) xs)))) n) ∙ a

-- at the end there is none
pub over_end : {X : Type 0} (f : X → List Plain) (xs : List X) (i : ℕ) (all : Option ℕ) → length xs ≤ i → first_over (flat_map f (drop i xs)) ≡ all → None ≡ all
over_end f xs i all h a = sym (ap (λ z. first_over (flat_map f z)) (drop_all i xs h) ∙ over_none) ∙ a
