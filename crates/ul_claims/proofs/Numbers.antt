-- How often a number stands in a list, lists that rise, and the part of a list below a limit.
use Rattle.std.proofs.Common.{◌≡◌, ◌≢◌, ℕ, zero, suc, ◌+◌, ◌<◌, ◌≤◌, Bool, true, false, cond, List, [], ◌∷◌, ◌++◌, length, get_or, slice_index, sym, refl, ap, ◌∙◌, subst, arith, length-append, append-nil}
use Rattle.std.specs.Prelude.{nat_lt, All, Contains}
use Rattle.std.specs.List.Sorted.{IsStrictlyIncreasing}
use Rattle.std.specs.List.{IsDistinct}
use Rattle.std.proofs.lemmas.Bool.{lt-ltb, le-ltb, eq-eqb}
use Rattle.std.proofs.lemmas.Bool.Decides.{nat_tests}
use Rattle.std.proofs.lemmas.List.{get_or_push}
use Rattle.std.proofs.lemmas.List.Elements.{All-nil, All-cons, All-weaker, filter-append, filter_passes, recursion_from_All}
use Rattle.std.proofs.lemmas.List.Kept.{IsStrictlyIncreasing-filter}
use Rattle.std.proofs.lemmas.Map.Keys.{IsDistinct-cons, IsDistinct-from_apart}
use Rattle.std.proofs.Math.ListN.{get_or-append}
use Rattle.std.proofs.Math.Dec.{eqb, ltb}
use borrow.Author.Tests.{ltb-true}
use mathlib.Core.Logic.{dite}
use native.Mathlib.Decide.{ℕ_discrete, dec_lt}
use Rattle.ul_claims.specs.Rule.{times}
use Rattle.ul_claims.specs.Seats.{below}

pub times-append : (x : ℕ) (xs ys : List ℕ) → times x (xs ++ ys) ≡ times x xs + times x ys
times-append x [] ys = omega arith
times-append x (y ∷ xs) ys = omega (arith, times-append x xs ys)

times_head : (x : ℕ) (xs : List ℕ) → times x (x ∷ xs) ≡ 1 + times x xs
times_head x xs = omega (arith, ap {B = ℕ} (λ b. cond b 1 0) (eq-eqb x x refl))

-- what holds of each number that stands in the list holds of each element
pub All-from_times : (P : ℕ → Type 0) (xs : List ℕ) → ((x : ℕ) → 0 < times x xs → P x) → All P xs
All-from_times P [] each = All-nil P
All-from_times P (y ∷ ys) each = All-cons P y ys (each y (omega (arith, times_head y ys))) (All-from_times P ys (λ x h. each x (omega arith)))

times_at : (x : ℕ) (xs : List ℕ) (k : ℕ) → k < length xs → get_or xs k x ≡ x → 0 < times x xs
times_at x [] k l e = absurd (omega arith)
times_at x (y ∷ ys) zero l e = subst (λ z. 0 < times x (z ∷ ys)) (sym e) (omega (arith, times_head x ys))
times_at x (y ∷ ys) (suc k) l e = omega (arith, times_at x ys k (omega arith) e)

pub times_from_contains : (x : ℕ) (xs : List ℕ) → Contains xs x → 0 < times x xs
times_from_contains x xs h = times_at x xs h.0 h.1 h.2

times_tail : (x y : ℕ) (ys : List ℕ) → y ≢ x → times x (y ∷ ys) ≡ times x ys
times_tail x y ys apart = grind (arith, nat_tests)

pub contains_from_times : (x : ℕ) (xs : List ℕ) → 0 < times x xs → Contains xs x
contains_from_times x [] h = absurd (omega arith)
contains_from_times x (y ∷ ys) h =
    dite (ℕ_discrete y x)
    (λ e. (0, omega arith, e))
    (λ apart. let t = contains_from_times x ys (omega (arith, times_tail x y ys apart)) in (suc t.0, omega (arith, t.1), t.2))

-- a number below the limit stands as often in the part below it, any other not at all
kept_more : (limit x y : ℕ) (b : Bool) (zs : List ℕ) → nat_lt y limit ≡ b → times x (cond b (y ∷ zs) zs) ≡ (cond (nat_lt x limit) (times x (y ∷ [])) 0) + times x zs
kept_more limit x y true zs e = dite (ℕ_discrete y x) (λ s. omega (arith, ap {B = ℕ} (λ b. cond b (times x (y ∷ [])) 0) (ap (λ (z : ℕ). nat_lt z limit) (sym s) ∙ e))) (λ apart. grind (arith, nat_tests))
kept_more limit x y false zs e = dite (ℕ_discrete y x) (λ s. omega (arith, ap {B = ℕ} (λ b. cond b (times x (y ∷ [])) 0) (ap (λ (z : ℕ). nat_lt z limit) (sym s) ∙ e))) (λ apart. grind (arith, nat_tests))

pub times-below : (limit x : ℕ) (xs : List ℕ) → times x (below limit xs) ≡ cond (nat_lt x limit) (times x xs) 0
times-below limit x [] = grind (arith, nat_tests)
times-below limit x (y ∷ ys) = kept_more limit x y (nat_lt y limit) (below limit ys) refl ∙ grind (arith, nat_tests, times-below limit x ys)

-- a number that is below the limit and greater than all in the list
pub below_more : (limit : ℕ) (xs : List ℕ) (n : ℕ) → n < limit → below limit (xs ++ n ∷ []) ≡ below limit xs ++ n ∷ []
below_more limit xs n l = filter-append (λ x. nat_lt x limit) xs (n ∷ []) ∙ ap (λ z. below limit xs ++ z) (ap (λ b. cond b (n ∷ []) []) (lt-ltb n limit l))

pub below_same : (limit : ℕ) (xs : List ℕ) (n : ℕ) → limit ≤ n → below limit (xs ++ n ∷ []) ≡ below limit xs
below_same limit xs n l = filter-append (λ x. nat_lt x limit) xs (n ∷ []) ∙ (ap (λ z. below limit xs ++ z) (ap (λ b. cond b (n ∷ []) []) (le-ltb n limit l)) ∙ append-nil (below limit xs))

pub IsStrictlyIncreasing-push : (xs : List ℕ) (n : ℕ) → IsStrictlyIncreasing xs → All (λ x. x < n) xs → IsStrictlyIncreasing (xs ++ n ∷ [])
IsStrictlyIncreasing-push xs n rising above k l =
    let short : k < length xs = omega (arith, length-append xs (n ∷ [])) in
    let here : slice_index (xs ++ n ∷ []) k ≡ slice_index xs k = get_or-append xs (n ∷ []) 0 k short in
    dite (dec_lt (k + 1) (length xs))
    (λ more. let there : slice_index (xs ++ n ∷ []) (k + 1) ≡ slice_index xs (k + 1) = get_or-append xs (n ∷ []) 0 (k + 1) more in omega (arith, rising k more))
    (λ last. let there : slice_index (xs ++ n ∷ []) (k + 1) ≡ n = get_or_push xs n 0 (k + 1) (omega arith) in omega (arith, above k 0 short))

at_least : (xs : List ℕ) → IsStrictlyIncreasing xs → (k : ℕ) → k < length xs → k ≤ slice_index xs k
at_least xs rising zero l = omega arith
at_least xs rising (suc k) l = omega (arith, ap (slice_index xs) (let e : k + 1 ≡ suc k = omega arith in e), at_least xs rising k (omega arith), rising k (omega arith))

-- a rising list of numbers below n has at most n of them
pub length-rising : (n : ℕ) (xs : List ℕ) → IsStrictlyIncreasing xs → All (λ x. x < n) xs → length xs ≤ n
length-rising n [] rising all = omega arith
length-rising n (x ∷ xs) rising all = omega (arith, at_least (x ∷ xs) rising (length xs) (omega arith), all (length xs) 0 (omega arith))

-- there is room for one more number below the limit
pub room_for_one : (limit n : ℕ) (xs : List ℕ) → IsStrictlyIncreasing xs → All (λ x. x < n) xs → n < limit → length (below limit xs) < limit
room_for_one limit n xs rising above l =
    let next : List ℕ = xs ++ n ∷ [] in
    let all : All (λ x. x < limit) (below limit next) = All-weaker (λ x. nat_lt x limit ≡ true) (λ x. x < limit) (λ x e. ltb-true x limit e) (below limit next) (filter_passes (λ x. nat_lt x limit) next) in
    let most : length (below limit next) ≤ limit = length-rising limit (below limit next) (IsStrictlyIncreasing-filter (λ x. nat_lt x limit) next (IsStrictlyIncreasing-push xs n rising above)) all in
    omega (arith, ap length (below_more limit xs n l), length-append (below limit xs) (n ∷ []))

-- where no number stands twice, all differ
pub IsDistinct-from_times : (xs : List ℕ) → ((x : ℕ) → times x xs ≤ 1) → IsDistinct eqb xs
IsDistinct-from_times [] once = IsDistinct-from_apart eqb [] (λ i j d less short. absurd (omega arith))
IsDistinct-from_times (y ∷ ys) once =
    IsDistinct-cons eqb y ys
    (recursion_from_All (λ z. eqb y z ≡ false) ys (All-from_times (λ z. eqb y z ≡ false) ys (λ z h. others y z ys h (once y))))
    (IsDistinct-from_times ys (λ x. omega (arith, once x)))
  where
    others : (y z : ℕ) (ys : List ℕ) → 0 < times z ys → times y (y ∷ ys) ≤ 1 → eqb y z ≡ false
    others y z ys h once = dite (ℕ_discrete y z) (λ e. absurd (omega (arith, times_head y ys, ap (λ (w : ℕ). times w ys) e))) (λ apart. grind (arith, nat_tests))
