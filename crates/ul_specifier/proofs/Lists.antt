-- Lemmas on tests and choices over a list, from a place on.
use Rattle.std.proofs.Common.{◌≡◌, ℕ, zero, suc, ◌+◌, ◌<◌, ◌≤◌, List, [], ◌∷◌, ◌++◌, length, drop, get_or, refl, sym, ◌∙◌, arith, Option, Some, None}
use Rattle.std.specs.Prelude.{◌==◌, not, All, IfSome}
use Rattle.std.specs.List.{filter_map, cons_option}
use Rattle.std.proofs.lemmas.List.{drop_more, drop_all, append_assoc, append-nil}
use Rattle.std.proofs.lemmas.List.Elements.{All-cons}
use Rattle.std.proofs.lemmas.Bool.{ne_eqb}
use Rattle.ul_specifier.specs.Clauses.{is_filled}

pub filled-length : {X : Type 0} (xs : List X) → not (length xs == 0) ≡ is_filled xs
filled-length [] = refl
filled-length (x ∷ xs) = rw (ne_eqb (length (x ∷ xs)) 0 (λ e. absurd (omega arith))) refl

cons-all : {X : Type 0} (P : X → Type 0) (o : Option X) (xs : List X) → IfSome o P → All P xs → All P (cons_option o xs)
cons-all P None xs s rest = rest
cons-all P (Some y) xs s rest = All-cons P y xs s rest

pub All-filter_map : {X : Type 0} (P : X → Type 0) (h : X → Option X) (xs : List X) → ((x : X) → P x → IfSome (h x) P) → All P xs → All P (filter_map h xs)
All-filter_map P h [] keeps all = all
All-filter_map P h (x ∷ xs) keeps all =
    cons-all P (h x) _ (keeps x (all zero x (omega arith))) (All-filter_map P h xs keeps (λ k d lt. all (suc k) d (omega arith)))

pub filter-next : {X Y : Type 0} (h : X → Option Y) (xs : List X) (i : ℕ) (x : X) → i < length xs → x ≡ get_or xs i x
    → filter_map h (drop i xs) ≡ cons_option (h x) (filter_map h (drop (i + 1) xs))
filter-next h xs i x lt e = rw (drop_more xs i x lt, ← e) refl

pub filter-end : {X Y : Type 0} (h : X → Option Y) (xs : List X) (i : ℕ) → length xs ≤ i → filter_map h (drop i xs) ≡ []
filter-end h xs i le = rw (drop_all i xs le) refl

pub filter-some : {X Y : Type 0} (h : X → Option Y) (xs : List X) (kept more : List Y) (i : ℕ) (x : X) (y : Y) → i < length xs → x ≡ get_or xs i x
    → filter_map h xs ≡ kept ++ filter_map h (drop i xs) → h x ≡ Some y → more ≡ kept ++ y ∷ []
    → filter_map h xs ≡ more ++ filter_map h (drop (i + 1) xs)
filter-some h xs kept more i x y lt e so some is =
    so ∙ rw (filter-next h xs i x lt e, some, is) (sym (append_assoc kept (y ∷ []) (filter_map h (drop (i + 1) xs))))

pub filter-none : {X Y : Type 0} (h : X → Option Y) (xs : List X) (kept more : List Y) (i : ℕ) (x : X) → i < length xs → x ≡ get_or xs i x
    → filter_map h xs ≡ kept ++ filter_map h (drop i xs) → h x ≡ None → more ≡ kept
    → filter_map h xs ≡ more ++ filter_map h (drop (i + 1) xs)
filter-none h xs kept more i x lt e so none is = so ∙ rw (filter-next h xs i x lt e, none, is) refl

pub filter-whole : {X Y : Type 0} (h : X → Option Y) (xs : List X) (kept : List Y) (i : ℕ) → length xs ≤ i
    → filter_map h xs ≡ kept ++ filter_map h (drop i xs) → kept ≡ filter_map h xs
filter-whole h xs kept i le so = sym (so ∙ rw (filter-end h xs i le) (append-nil kept))
