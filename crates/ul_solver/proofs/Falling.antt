-- The measure falls.
use Rattle.std.proofs.Common.{◌≡◌, ℕ, zero, suc, ◌+◌, List, [], Bool, true, false, cond, refl, ap, ◌∙◌, sym, subst, ◌<◌, ◌≤◌, inl, inr, arith, nat_le, length}
use Rattle.std.proofs.lemmas.Bool.{le-leb, cases_order}
use Rattle.ul_trail.specs.declared.fact.Fact.{Fact}
use Rattle.ul_trail.specs.Counts.{open_in, level_number, level_numbers}
use Rattle.ul_trail.specs.Facts.{up_to, level_of}
use Rattle.ul_trail.proofs.ForCallers.{open_le}
use Rattle.ul_solver.specs.Measure.{AreBelow, IsLower, number_of}
use Rattle.ul_solver.specs.State.{measure_of}
use Rattle.ul_solver.proofs.MeasureLaws.{number_falls}

number_le : (p : List ℕ) (facts : List Fact) (l : ℕ) (b : Bool) → cond b (open_in p (up_to l facts)) (suc (open_in p [])) < open_in p [] + 2
number_le p facts l true = let h : open_in p (up_to l facts) ≤ open_in p [] = open_le p (up_to l facts) [] (length p) (λ n o e. refl) in omega arith
number_le p facts l false = omega arith

pub all_below : (p : List ℕ) (facts : List Fact) (top k l : ℕ) → AreBelow (open_in p [] + 2) (level_numbers p facts top k l)
all_below p facts top zero l = tt
all_below p facts top (suc k) l = (number_le p facts l (nat_le l top), all_below p facts top k (suc l))

pub all_long : (p : List ℕ) (facts : List Fact) (top k l : ℕ) → length (level_numbers p facts top k l) ≡ k
all_long p facts top zero l = refl
all_long p facts top (suc k) l = ap suc (all_long p facts top k (suc l))

lower_numbers : (p : List ℕ) (xs ys : List Fact) (a b m k l : ℕ) → ((j : ℕ) → j < m → level_number p xs a j ≡ level_number p ys b j) → level_number p xs a m < level_number p ys b m → l ≤ m → m < l + k → IsLower (level_numbers p xs a k l) (level_numbers p ys b k l)
lower_numbers p xs ys a b m zero l h i low high = absurd (omega arith)
lower_numbers p xs ys a b m (suc k) l h i low high = elim (cases_order l m) [
  | inl same ↦ inl (subst (λ (j : ℕ). level_number p xs a j < level_number p ys b j) (sym same) i)
  | inr (inl less) ↦ inr (h l less, lower_numbers p xs ys a b m k (suc l) h i (omega arith) (omega arith))
  | inr (inr more) ↦ absurd (omega arith)
]

pub measure_falls : (p : List ℕ) (now before : List Fact) (m : ℕ) → ((l : ℕ) → l < m → up_to l now ≡ up_to l before) → m ≤ suc (level_of before) → level_of now ≡ m → m ≤ length p → level_number p now m m < level_number p before (level_of before) m → measure_of p now < measure_of p before
unfolding measure_of
measure_falls p now before m same near top room low =
    let each : (j : ℕ) → j < m → level_number p now m j ≡ level_number p before (level_of before) j = λ j h.
    (let e : nat_le j m ≡ true = le-leb j m (omega arith) in
    let f : nat_le j (level_of before) ≡ true = le-leb j (level_of before) (omega arith) in
    rw (e, f) (ap (λ (facts : List Fact). open_in p facts) (same j h))) in
    let lower : IsLower (level_numbers p now m (suc (length p)) 0) (level_numbers p before (level_of before) (suc (length p)) 0) =
    lower_numbers p now before m (level_of before) m (suc (length p)) 0 each low (omega arith) (omega arith) in
    let falls = number_falls (open_in p [] + 2) (level_numbers p now m (suc (length p)) 0) (level_numbers p before (level_of before) (suc (length p)) 0)
    (all_below p now m (suc (length p)) 0)
    (all_long p now m (suc (length p)) 0 ∙ sym (all_long p before (level_of before) (suc (length p)) 0)) lower in
    subst (λ (k : ℕ). number_of (open_in p [] + 2) (level_numbers p now k (suc (length p)) 0) < number_of (open_in p [] + 2) (level_numbers p before (level_of before) (suc (length p)) 0)) (sym top) falls
