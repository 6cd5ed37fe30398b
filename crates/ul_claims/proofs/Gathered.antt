-- What the lists of several seats have, put together, looked at and sorted.
use Rattle.std.proofs.Common.{◌≡◌, ℕ, suc, ◌+◌, ◌<◌, ◌≤◌, ◌↔◌, cond, List, [], ◌∷◌, ◌++◌, sym, refl, ap, ◌∙◌, subst, arith}
use Rattle.std.specs.Prelude.{nat_lt, Some, All, Contains, sum_by, IsPermutation, IsSorted}
use Rattle.std.specs.List.{IsDistinct}
use Rattle.std.specs.List.Sorted.{IsStrictlyIncreasing}
use Rattle.std.specs.Ordering.{nat_cmp}
use Rattle.std.proofs.lemmas.Bool.{ne_eqb}
use Rattle.std.proofs.lemmas.Bool.Decides.{nat_tests}
use Rattle.std.proofs.lemmas.List.Elements.{All-contains, All-pop, All-same, filter-append}
use Rattle.std.proofs.lemmas.List.Sorted.{IsPermutation-sym, Contains-permutation, IsNonDecreasingBy-from_sort}
use Rattle.std.proofs.lemmas.List.Sums.{sum_by-cons, sum_by_push, get_or-le-sum_by}
use Rattle.std.proofs.lemmas.Map.Keys.{IsDistinct-IsPermutation, IsStrictlyIncreasing-from_distinct}
use Rattle.std.proofs.Math.Dec.{eqb}
use mathlib.Core.Logic.{dite}
use native.Mathlib.Decide.{ℕ_discrete, dec_lt}
use Rattle.atomic_table.specs.Table.{Me}
use Rattle.ul_claims.specs.declared.steps.Tally.{Tally}
use Rattle.ul_claims.specs.Rule.{tally, times, once_below, parts_in_all}
use Rattle.ul_claims.specs.Seats.{ClaimsView, SeatView, below, IsDrawn, times_drawn, AreAll, HadNone}
use Rattle.ul_claims.proofs.Numbers.{times-append, times-below, times_from_contains, contains_from_times, IsDistinct-from_times}

-- the lists of the seats that were taken in are in one list, `drawn`, and its numbers below the limit in another
pub record Joined (claims : ClaimsView) (seats rest : List SeatView) (parts : ℕ) (drawn numbers : List ℕ) : Type 0 where
  pub own : All (λ s. s.claims ≡ claims) rest
  pub kept : numbers ≡ below claims.limit drawn
  pub drawn_all : (x : ℕ) → times x drawn + times_drawn x rest ≡ times_drawn x seats
  pub parts_all : parts + sum_by (λ s. s.parts) rest ≡ sum_by (λ s. s.parts) seats

-- one seat is taken off all: it is of the same claims, and its own lists are the first
pub first_joined : (claims : ClaimsView) (seats rest : List SeatView) (s : SeatView) (numbers : List ℕ) → All (λ s. s.claims ≡ claims) seats → seats ≡ rest ++ s ∷ []
    → numbers ≡ below s.claims.limit s.drawn → (s.claims ≡ claims) × Joined claims seats rest s.parts s.drawn numbers
first_joined claims seats rest s numbers all left kept =
    let own : All (λ s. s.claims ≡ claims) (rest ++ s ∷ []) = All-same (λ s. s.claims ≡ claims) (rest ++ s ∷ []) seats (sym left) all in
    let both = All-pop (λ s. s.claims ≡ claims) (rest ++ s ∷ []) rest (Some s) refl own in (
      both.1,
      record {
        own = both.0;
        kept = kept ∙ ap (λ (c : ClaimsView). below c.limit s.drawn) both.1;
        drawn_all = λ x. omega (arith, ap (times_drawn x) left, sum_by_push (λ (s : SeatView). times x s.drawn) rest s);
        parts_all = omega (arith, ap (sum_by (λ (s : SeatView). s.parts)) left, sum_by_push (λ (s : SeatView). s.parts) rest s);
      },
    )

-- the last of the seats that are left is of the same claims
pub next_own : (claims : ClaimsView) (seats rest rest' : List SeatView) (s : SeatView) (parts : ℕ) (drawn numbers : List ℕ) → Joined claims seats rest parts drawn numbers → rest ≡ rest' ++ s ∷ []
    → s.claims ≡ claims
next_own claims seats rest rest' s parts drawn numbers j left =
    let own : All (λ s. s.claims ≡ claims) (rest' ++ s ∷ []) = All-same (λ s. s.claims ≡ claims) (rest' ++ s ∷ []) rest (sym left) j.own in
    (All-pop (λ s. s.claims ≡ claims) (rest' ++ s ∷ []) rest' (Some s) refl own).1

-- one more seat is taken in, the last of those that are left
pub joined_more : (claims : ClaimsView) (seats rest rest' : List SeatView) (s : SeatView) (parts : ℕ) (drawn numbers numbers' : List ℕ) (slots : List (ℕ × ℕ)) → Joined claims seats rest parts drawn numbers → rest ≡ rest' ++ s ∷ []
    → numbers' ≡ numbers ++ below claims.limit s.drawn → (me : Me ℕ Tally) → me ≡ (tally (parts + s.parts) (drawn ++ s.drawn), slots) → Joined claims seats rest' me.0.parts me.0.drawn numbers'
joined_more claims seats rest rest' s parts drawn numbers numbers' slots j left more me is =
    let P : Me ℕ Tally → Type 0 = λ m. Joined claims seats rest' m.0.parts m.0.drawn numbers' in
    let own : All (λ s. s.claims ≡ claims) (rest' ++ s ∷ []) = All-same (λ s. s.claims ≡ claims) (rest' ++ s ∷ []) rest (sym left) j.own in
    subst P (sym is) record {
      own = (All-pop (λ s. s.claims ≡ claims) (rest' ++ s ∷ []) rest' (Some s) refl own).0;
      kept = more ∙ (ap (λ z. z ++ below claims.limit s.drawn) j.kept ∙ sym (filter-append (λ x. nat_lt x claims.limit) drawn s.drawn));
      drawn_all = λ x. omega (arith, j.drawn_all x, times-append x drawn s.drawn, ap (times_drawn x) left, sum_by_push (λ (s : SeatView). times x s.drawn) rest' s);
      parts_all = omega (arith, j.parts_all, ap (sum_by (λ (s : SeatView). s.parts)) left, sum_by_push (λ (s : SeatView). s.parts) rest' s);
    }

-- all seats were taken in
pub joined_drawn : (claims : ClaimsView) (seats rest : List SeatView) (parts : ℕ) (drawn numbers : List ℕ) → Joined claims seats rest parts drawn numbers → rest ≡ [] → (x : ℕ) → times x drawn ≡ times_drawn x seats
joined_drawn claims seats rest parts drawn numbers j none x = omega (arith, j.drawn_all x, ap (times_drawn x) none)

pub joined_parts : (claims : ClaimsView) (seats rest : List SeatView) (parts : ℕ) (drawn numbers : List ℕ) → Joined claims seats rest parts drawn numbers → rest ≡ [] → AreAll seats → parts ≡ parts_in_all
joined_parts claims seats rest parts drawn numbers j none every = omega (arith, j.parts_all, ap (sum_by (λ (s : SeatView). s.parts)) none, every)

pub drawn_from_times : (x : ℕ) (seats : List SeatView) → 0 < times_drawn x seats → IsDrawn seats x
drawn_from_times x [] h = absurd (omega arith)
drawn_from_times x (s ∷ ss) h =
    dite (dec_lt 0 (times x s.drawn))
    (λ here. (0, s, omega arith, refl, contains_from_times x s.drawn here))
    (λ none. let t = drawn_from_times x ss (omega (arith, sum_by-cons (λ (s : SeatView). times x s.drawn) s ss)) in (suc t.0, t.1, omega (arith, t.2), t.3, t.4))

pub times_from_drawn : (x : ℕ) (seats : List SeatView) → IsDrawn seats x → 0 < times_drawn x seats
times_from_drawn x seats h =
    omega (arith, get_or-le-sum_by (λ (s : SeatView). times x s.drawn) seats h.0 h.1 h.2, ap (λ (s : SeatView). times x s.drawn) h.3, times_from_contains x h.1.drawn h.4)

flips : (x y : ℕ) → eqb x y ≡ eqb y x
flips x y = dite (ℕ_discrete x y) (λ e. ap (λ (z : ℕ). eqb z y) e ∙ ap (λ (z : ℕ). eqb y z) (sym e)) (λ apart. ne_eqb x y apart ∙ sym (ne_eqb y x (λ e. apart (sym e))))

-- sorted, the numbers rise
pub sorted_rises : (limit : ℕ) (drawn numbers sorted : List ℕ) → numbers ≡ below limit drawn → ((x : ℕ) → times x drawn ≤ 1) → IsPermutation numbers sorted → IsSorted nat_cmp sorted → IsStrictlyIncreasing sorted
sorted_rises limit drawn numbers sorted is once moved up =
    let apart : IsDistinct eqb numbers = IsDistinct-from_times numbers (λ x. subst (λ z. times x z ≤ 1) (sym is) (grind (arith, nat_tests, times-below limit x drawn, once x))) in
    IsStrictlyIncreasing-from_distinct sorted (IsNonDecreasingBy-from_sort (λ x. x) sorted up) (IsDistinct-IsPermutation eqb flips numbers sorted moved apart)

-- a number is among the sorted ones exactly where it is below the limit and was drawn
pub sorted_has : (limit : ℕ) (drawn numbers sorted : List ℕ) → numbers ≡ below limit drawn → IsPermutation numbers sorted → (n : ℕ) → Contains sorted n ↔ ((n < limit) × (0 < times n drawn))
sorted_has limit drawn numbers sorted is moved n =
    let count : times n numbers ≡ cond (nat_lt n limit) (times n drawn) 0 = ap (times n) is ∙ times-below limit n drawn in (
      (λ h.
          let some : 0 < times n numbers = times_from_contains n numbers (Contains-permutation sorted numbers n (IsPermutation-sym numbers sorted moved) h) in
          grind (arith, nat_tests)),
      (λ h.
          let low : n < limit = h.0 in
          let some : 0 < times n drawn = h.1 in
          Contains-permutation numbers sorted n moved (contains_from_times n numbers (grind (arith, nat_tests)))),
    )

-- with all parts and a number that is the limit or more, each number below the limit was drawn
pub all_drawn : (claims : ClaimsView) (seats : List SeatView) (drawn : List ℕ) (word : ℕ) → All (λ s. s.claims ≡ claims) seats → ((x : ℕ) → times x drawn ≡ times_drawn x seats)
    → ((x : ℕ) → times x drawn ≡ once_below x word) → HadNone seats → (n : ℕ) → n < claims.limit → 0 < times n drawn
all_drawn claims seats drawn word own same counted none n low =
    let s : SeatView = none.1 in
    let past = none.4 in
    let mine : s.claims ≡ claims = All-contains (λ s. s.claims ≡ claims) seats s own (none.0, none.2, none.3) in
    let m : ℕ = past.1 in
    let above : claims.limit ≤ m = omega (arith, past.4, ap (λ (c : ClaimsView). c.limit) mine) in
    let there : 0 < times_drawn m seats = times_from_drawn m seats (none.0, s, none.2, none.3, (past.0, past.2, past.3)) in
    let word_above : m < word = grind (arith, nat_tests, counted m, same m) in
    grind (arith, nat_tests, counted n)
