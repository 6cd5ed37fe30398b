-- What is said of all elements of a list, and of one of them.
use Rattle.std.proofs.Common.{◌≡◌, ◌⊎◌, ◌&&◌, ◌||◌, ℕ, ◌+◌, List, [], ◌∷◌, Bool, true, false, cond, Contains, refl, sym, ap, ◌∙◌, inl, inr, ⊎_elim, count_by, arith}
use Rattle.std.proofs.lemmas.List.Sums.{sum_by-cons}
use Rattle.std.specs.List.{list_all, list_any}
use Rattle.ul_base.proofs.ForCallers.{contains_first, contains_later, contains_cases, none_in}
use Rattle.ul_lines.specs.Reader.{Each}
use Rattle.ul_lock.specs.Increasing.{Rising}
use Rattle.ul_sound.proofs.Strict.{IsStrict}
use Rattle.ul_sound.proofs.Indexes.{before_all}

pub both_true : (a b : Bool) → a ≡ true → b ≡ true → (a && b) ≡ true
both_true true b e h = h
both_true false b e h = cc

one_true : (a b : Bool) → a ≡ true → (a || b) ≡ true
one_true true b e = refl
one_true false b e = cc

other_true : (a b : Bool) → b ≡ true → (a || b) ≡ true
other_true true b e = refl
other_true false b e = e

pub each_of : {A : Type 0} (P : A → Type 0) (xs : List A) → ((x : A) → Contains xs x → P x) → Each P xs
each_of P [] h = tt
each_of P (x ∷ xs) h = (h x (contains_first x xs), each_of P xs (λ y m. h y (contains_later x xs y m)))

pub all_pass : {A : Type 0} (test : A → Bool) (xs : List A) → ((x : A) → Contains xs x → test x ≡ true) → list_all test xs ≡ true
all_pass test [] h = refl
all_pass test (x ∷ xs) h = both_true (test x) (list_all test xs) (h x (contains_first x xs)) (all_pass test xs (λ y m. h y (contains_later x xs y m)))

pub one_passes : {A : Type 0} (test : A → Bool) (xs : List A) (x : A) → Contains xs x → test x ≡ true → list_any test xs ≡ true
one_passes test [] x m e = absurd (none_in x m)
one_passes test (y ∷ ys) x m e = ⊎_elim (λ s. one_true (test y) (list_any test ys) (ap test (sym s) ∙ e)) (λ r. other_true (test y) (list_any test ys) (one_passes test ys x r e)) (contains_cases y ys x m)

no_more : (b : Bool) (n : ℕ) → (b ≡ true → ⊥) → n ≡ 0 → cond b 1 0 + n ≡ 0
no_more true n f e = absurd (f refl)
no_more false n f e = omega (arith, e)

none_counted : {A : Type 0} (test : A → Bool) (xs : List A) → ((x : A) → Contains xs x → test x ≡ true → ⊥) → count_by test xs ≡ 0
none_counted test [] h = refl
none_counted test (x ∷ xs) h = sum_by-cons (λ y. cond (test y) 1 0) x xs
    ∙ no_more (test x) (count_by test xs) (h x (contains_first x xs)) (none_counted test xs (λ y m. h y (contains_later x xs y m)))

clash : {A : Type 0} (b : Bool) → b ≡ false → b ≡ true → A
clash true p q = cc
clash false p q = cc

one_and_none : (n : ℕ) → n ≡ 0 → 1 + n ≡ 1
one_and_none n e = omega (arith, e)

none_and_one : (n : ℕ) → n ≡ 1 → 0 + n ≡ 1
none_and_one n e = omega (arith, e)

module _ {A : Type 0} (less : A → A → Bool) (strict : IsStrict less) (test : A → Bool) where
  -- elements that pass don't stand above one another
  abbrev pub AreLevel : List A → Type 0
  AreLevel xs = (a b : A) → Contains xs a → Contains xs b → test a ≡ true → test b ≡ true → less a b ≡ true → ⊥

  count_from : (x : A) (xs : List A) (y : A) (b : Bool) → test x ≡ b → Rising less (x ∷ xs) → AreLevel (x ∷ xs) → (Contains xs y → count_by test xs ≡ 1)
      → (y ≡ x) ⊎ Contains xs y → test y ≡ true → cond b 1 0 + count_by test xs ≡ 1
  count_from x xs y true t h level later m e = one_and_none (count_by test xs) (none_counted test xs
      (λ z k q. level x z (contains_first x xs) (contains_later x xs z k) t q (before_all less strict x xs z h k)))
  count_from x xs y false t h level later (inl s) e = clash (test x) t (ap test (sym s) ∙ e)
  count_from x xs y false t h level later (inr r) e = none_and_one (count_by test xs) (later r)

  -- a list that increases has one element that passes, if elements that pass are level
  pub count_one : (xs : List A) (y : A) → Rising less xs → AreLevel xs → Contains xs y → test y ≡ true → count_by test xs ≡ 1
  count_one [] y h level m e = absurd (none_in y m)
  count_one (x ∷ xs) y h level m e = sum_by-cons (λ z. cond (test z) 1 0) x xs ∙ count_from x xs y (test x) refl h level
      (λ r. count_one xs y h.1 (λ a b j k. level a b (contains_later x xs a j) (contains_later x xs b k)) r e) (contains_cases x xs y m) e
