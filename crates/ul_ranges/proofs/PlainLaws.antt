-- The plain bodies: operations as maps over pairs, a sorted list without repeats, and a look at each start.
use Rattle.std.proofs.Common.{◌≡◌, ℕ, zero, suc, List, [], ◌∷◌, ◌++◌, Bool, true, false, cond, refl, ap, ◌∙◌, sym, get_or, ◌+◌, ◌^◌, ◌<◌, ◌≤◌, length, arith, inl, inr, eqb, Some, nat_cmp}
use Rattle.std.specs.Prelude.{map, zip, ◌⊎◌, ◌↔◌, slice_get, All, Contains, IsPermutation, IsSorted}
use Rattle.std.specs.List.{dedup}
use Rattle.std.proofs.lemmas.List.{get_or_default}
use Rattle.std.proofs.lemmas.List.Elements.{Contains-append_left, Contains-append_right, Contains-append_cases, All-contains}
use Rattle.std.proofs.lemmas.List.Kept.{Contains-dedup_nat, Contains-from_dedup}
use Rattle.std.proofs.lemmas.List.Sorted.{list_any-IsPermutation}
use Rattle.std.proofs.lemmas.Map.Keys.{IsStrictlyIncreasing-dedup}
use Rattle.std.specs.List.Sorted.{IsStrictlyIncreasing}
use Rattle.ul_ranges.specs.Flags.{both, either, less}
use Rattle.ul_ranges.specs.Pieces.{AreStarts, IsRefinement}
use Rattle.ul_ranges.proofs.FlagLaws.{any_in, in_any}
use Rattle.ul_ranges.proofs.PieceLaws.{rises, first_is_zero}

pub both_zip : (xs ys : List Bool) → length xs ≡ length ys → map (λ p. cond p.0 p.1 false) (zip xs ys) ≡ both xs ys
both_zip [] ys e = refl
both_zip (x ∷ xs) [] e = refl
both_zip (x ∷ xs) (y ∷ ys) e = ap (λ (l : List Bool). cond x y false ∷ l) (both_zip xs ys cc)

pub either_zip : (xs ys : List Bool) → length xs ≡ length ys → map (λ p. cond p.0 true p.1) (zip xs ys) ≡ either xs ys
either_zip [] [] e = refl
either_zip [] (y ∷ ys) e = cc
either_zip (x ∷ xs) [] e = cc
either_zip (x ∷ xs) (y ∷ ys) e = ap (λ (l : List Bool). cond x true y ∷ l) (either_zip xs ys cc)

pub less_zip : (xs ys : List Bool) → length xs ≡ length ys → map (λ p. cond p.1 false p.0) (zip xs ys) ≡ less xs ys
less_zip [] [] e = refl
less_zip [] (y ∷ ys) e = cc
less_zip (x ∷ xs) [] e = cc
less_zip (x ∷ xs) (y ∷ ys) e = ap (λ (l : List Bool). cond y false x ∷ l) (less_zip xs ys cc)

-- ---- the starts of either, sorted and without repeats
sorted_has : (all sorted : List ℕ) (v : ℕ) → IsPermutation all sorted → Contains all v ↔ Contains (dedup eqb sorted) v
sorted_has all sorted v p =
    let same = list_any-IsPermutation (λ m. eqb m v) all sorted p in (
      λ c. Contains-dedup_nat sorted v (any_in v sorted (sym same ∙ in_any v all c)),
      λ c. any_in v all (same ∙ in_any v sorted (Contains-from_dedup eqb sorted v c)),
    )

first_of_rising : (xs : List ℕ) → IsStrictlyIncreasing xs → Contains xs 0 → slice_get xs 0 ≡ Some 0
first_of_rising [] inc c = let l = c.1 in absurd (omega arith)
first_of_rising (x ∷ xs) inc (zero, l, e) = ap Some e
first_of_rising (x ∷ xs) inc (suc k, l, e) =
    let g : x < get_or (x ∷ xs) (suc k) 0 = rises (x ∷ xs) inc 0 (suc k) (omega arith) l in absurd (omega arith)

all_by_members : (xs : List ℕ) → ((v : ℕ) → Contains xs v → v < 2 ^ 96) → All (λ s. s < 2 ^ 96) xs
all_by_members xs h k d l = h (get_or xs k d) (k, l, get_or_default xs k (get_or xs k d) d l)

pub sorted_refines : (xs ys all sorted : List ℕ) → AreStarts xs → AreStarts ys → all ≡ xs ++ ys → IsPermutation all sorted → IsSorted nat_cmp sorted
    → IsRefinement xs ys (dedup eqb sorted)
sorted_refines xs ys all sorted a b joined p s =
    let has : (v : ℕ) → Contains (xs ++ ys) v ↔ Contains (dedup eqb sorted) v = λ v. sorted_has (xs ++ ys) sorted v (rw joined at p) in
    let parts : (v : ℕ) → Contains (dedup eqb sorted) v → Contains xs v ⊎ Contains ys v = λ v c. Contains-append_cases xs ys v ((has v).1 c) in
    let zero_in : Contains xs 0 = let f = first_is_zero xs a.first in (0, f.0, f.1) in
    let rising = IsStrictlyIncreasing-dedup sorted s in
    record {
      cuts = record {
        first = first_of_rising (dedup eqb sorted) rising ((has 0).0 (Contains-append_left xs ys 0 zero_in));
        rising = rising;
        below = all_by_members (dedup eqb sorted) (λ v c. elim (parts v c) [
          | inl h ↦ All-contains (λ s. s < 2 ^ 96) xs v a.below h
          | inr h ↦ All-contains (λ s. s < 2 ^ 96) ys v b.below h
        ]);
      };
      members = λ v. (
        parts v,
        λ c. elim c [
          | inl h ↦ (has v).0 (Contains-append_left xs ys v h)
          | inr h ↦ (has v).0 (Contains-append_right xs ys v h)
        ],
      );
    }

-- ---- a look at each start
-- the last of the first n starts that is at or before x, or 0 where there is none yet
pub record IsLastSeen (starts : List ℕ) (x n piece : ℕ) : Type 0 where
  pub place : piece ≤ n
  pub seen : 0 < n → piece < n
  pub from : get_or starts piece 0 ≤ x
  pub after : (k : ℕ) → piece < k → k < n → x < get_or starts k 0
