-- Lemmas on texts that are cut by classes of bytes.
use Rattle.std.proofs.Common.{◌≡◌, ℕ, ◌+◌, ◌<◌, ◌≤◌, List, [], ◌∷◌, ◌++◌, length, drop, take, get_or, refl, sym, ap, ◌∙◌, arith, Bool, true, false, inl, inr, add-one}
use Rattle.std.proofs.lemmas.List.{drop_more, drop_all, take_more, get_or-take, length-take, take-append-drop}
use Rattle.std.proofs.lemmas.Bool.{cases_Bool}
use Rattle.std.specs.List.{list_all, slice_split}
use Rattle.std.proofs.lemmas.List.Splits.{slice_split_none, slice_split_at}
use Rattle.std.specs.Prelude.{All}
use Rattle.std.proofs.lemmas.Grind.{get_or_default_zero}
use Rattle.ul_version.specs.Ascii.{after_all, before_all, unless_last, run_length}

-- ---- how many bytes in front pass a test

-- one byte more passes
pub run-more : (test : ℕ → Bool) (xs : List ℕ) (i : ℕ) → i < length xs → test (get_or xs i 0) ≡ true →
    run_length test (drop i xs) ≡ run_length test (drop (i + 1) xs) + 1
run-more test xs i h w = rw (drop_more xs i 0 h, w) refl

-- the next byte fails
pub run-stop : (test : ℕ → Bool) (xs : List ℕ) (i : ℕ) → i < length xs → test (get_or xs i 0) ≡ false →
    run_length test (drop i xs) ≡ 0
run-stop test xs i h w = rw (drop_more xs i 0 h, w) refl

-- the text is at its end
pub run-end : (test : ℕ → Bool) (xs : List ℕ) (i : ℕ) → length xs ≤ i → run_length test (drop i xs) ≡ 0
run-end test xs i h = rw (drop_all i xs h) refl

-- each byte of a run passes
pub run-all : (test : ℕ → Bool) (xs : List ℕ) → list_all test (take (run_length test xs) xs) ≡ true
run-all test [] = refl
run-all test (x ∷ xs) = elim (cases_Bool (test x)) [
  | inl passes ↦ rw (passes, add-one) (rw passes (run-all test xs))
  | inr fails ↦ rw fails refl
]

-- a run is no longer than the text
pub run-fits : (test : ℕ → Bool) (xs : List ℕ) → run_length test xs ≤ length xs
run-fits test [] = omega arith
run-fits test (x ∷ xs) = elim (cases_Bool (test x)) [
  | inl passes ↦ rw passes (omega (arith, run-fits test xs))
  | inr fails ↦ rw fails (omega arith)
]

-- what follows a run is the text without it
pub after_all-drop : (test : ℕ → Bool) (xs : List ℕ) → drop (run_length test xs) xs ≡ after_all test xs
after_all-drop test [] = refl
after_all-drop test (x ∷ xs) = elim (cases_Bool (test x)) [
  | inl passes ↦ rw (passes, add-one) (after_all-drop test xs)
  | inr fails ↦ rw fails refl
]

-- ---- the text without a run in front

pub after_all-skip : (test : ℕ → Bool) (xs : List ℕ) (i : ℕ) → i < length xs → test (get_or xs i 0) ≡ true →
    after_all test (drop i xs) ≡ after_all test (drop (i + 1) xs)
after_all-skip test xs i h w = rw (drop_more xs i 0 h, w) refl

pub after_all-stop : (test : ℕ → Bool) (xs : List ℕ) (i : ℕ) → i < length xs → test (get_or xs i 0) ≡ false →
    after_all test (drop i xs) ≡ drop i xs
after_all-stop test xs i h w = rw (drop_more xs i 0 h, w) refl

pub after_all-end : (test : ℕ → Bool) (xs : List ℕ) (i : ℕ) → length xs ≤ i → after_all test (drop i xs) ≡ drop i xs
after_all-end test xs i h = rw (drop_all i xs h) refl

-- ---- the text without a run at its end

before_all-push : (test : ℕ → Bool) (xs : List ℕ) (b : ℕ) → test b ≡ true → before_all test (xs ++ b ∷ []) ≡ before_all test xs
before_all-push test [] b w = rw w refl
before_all-push test (x ∷ xs) b w = ap (unless_last test x) (before_all-push test xs b w)

before_all-kept : (test : ℕ → Bool) (xs : List ℕ) (b : ℕ) → test b ≡ false → before_all test (xs ++ b ∷ []) ≡ xs ++ b ∷ []
before_all-kept test [] b w = rw w refl
before_all-kept test (x ∷ []) b w = rw w refl
before_all-kept test (x ∷ y ∷ xs) b w = rw (before_all-kept test (y ∷ xs) b w) refl

-- the last of the first n bytes passes the test
pub before_all-skip : (test : ℕ → Bool) (xs : List ℕ) (n k : ℕ) → n ≡ k + 1 → n ≤ length xs → test (get_or xs k 0) ≡ true →
    before_all test (take n xs) ≡ before_all test (take k xs)
before_all-skip test xs n k e h w =
    rw e (rw (take_more xs k 0 (omega arith)) (before_all-push test (take k xs) (get_or xs k 0) w))

-- the last of the first n bytes fails it
pub before_all-stop : (test : ℕ → Bool) (xs : List ℕ) (n k : ℕ) → n ≡ k + 1 → n ≤ length xs → test (get_or xs k 0) ≡ false →
    before_all test (take n xs) ≡ take n xs
before_all-stop test xs n k e h w =
    rw e (rw (take_more xs k 0 (omega arith)) (before_all-kept test (take k xs) (get_or xs k 0) w))

-- there is no byte
pub before_all-none : (test : ℕ → Bool) (xs : List ℕ) (n : ℕ) → n ≡ 0 → before_all test (take n xs) ≡ take n xs
before_all-none test xs n e = rw e refl

-- ---- whether each byte passes

-- each byte that was looked at passes
pub all-more : (test : ℕ → Bool) (xs : List ℕ) (i : ℕ) → i < length xs → test (get_or xs i 0) ≡ true →
    list_all test (drop i xs) ≡ list_all test (drop (i + 1) xs)
all-more test xs i h w = rw (drop_more xs i 0 h, w) refl

pub all-stop : (test : ℕ → Bool) (xs : List ℕ) (i : ℕ) → i < length xs → test (get_or xs i 0) ≡ false →
    list_all test (drop i xs) ≡ false
all-stop test xs i h w = rw (drop_more xs i 0 h, w) refl

-- ---- pieces between the bytes of a class

-- none of these bytes is of the class
all_fail : (test : ℕ → Bool) (xs : List ℕ) → ((k : ℕ) → k < length xs → test (get_or xs k 0) ≡ false) → All (λ x. test x ≡ false) xs
all_fail test xs h k d lt = rw (get_or_default_zero xs k d lt) (h k lt)

-- no byte parts the text
pub split-last : (test : ℕ → Bool) (xs : List ℕ) → ((k : ℕ) → k < length xs → test (get_or xs k 0) ≡ false) →
    slice_split test xs ≡ xs ∷ []
split-last test xs h = slice_split_none test xs (all_fail test xs h)

-- the byte at n is the first that parts the text
pub split-more : (test : ℕ → Bool) (xs : List ℕ) (n : ℕ) → n < length xs → test (get_or xs n 0) ≡ true →
    ((k : ℕ) → k < n → test (get_or xs k 0) ≡ false) →
    slice_split test xs ≡ take n xs ∷ slice_split test (drop (n + 1) xs)
split-more test xs n lt parts none =
    let whole : xs ≡ take n xs ++ (get_or xs n 0 ∷ drop (n + 1) xs) =
    sym (take-append-drop n xs) ∙ ap (λ (l : List ℕ). take n xs ++ l) (drop_more xs n 0 lt) in
    let front : All (λ x. test x ≡ false) (take n xs) = all_fail test (take n xs) (λ k inside.
    let below : k < n = omega (arith, length-take n xs) in rw (get_or-take n xs k 0 below) (none k below)) in
    ap (slice_split test) whole ∙ slice_split_at test (take n xs) (get_or xs n 0) (drop (n + 1) xs) front parts
