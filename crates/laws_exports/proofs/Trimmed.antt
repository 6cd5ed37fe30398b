-- Texts without what stands at their ends.
use Rattle.std.proofs.Common.{◌≡◌, ℕ, List, [], ◌∷◌, ◌++◌, Bool, true, false, inl, inr, refl, sym, ap, ◌∙◌}
use Rattle.std.specs.List.{list_all}
use Rattle.std.proofs.lemmas.Bool.{and_parts, cases_Bool}
use Rattle.std.proofs.lemmas.List.Folds.{list_all-append}
use Rattle.ul_version.specs.Ascii.{after_all, before_all, text_between, unless_last}
use Rattle.ul_specifier.proofs.ForCallers.{end-dropped}

-- a last byte that passes is dropped
pub last_dropped : (test : ℕ → Bool) (xs : List ℕ) (b : ℕ) → test b ≡ true
    → before_all test (xs ++ b ∷ []) ≡ before_all test xs
last_dropped test [] b h = rw h refl
last_dropped test (x ∷ xs) b h = ap (unless_last test x) (last_dropped test xs b h)

-- before what is kept at the end all is kept
pub front_kept : (test : ℕ → Bool) (xs ys : List ℕ) (b : ℕ) (rest : List ℕ) → before_all test ys ≡ b ∷ rest
    → before_all test (xs ++ ys) ≡ xs ++ b ∷ rest
front_kept test [] ys b rest e = e
front_kept test (x ∷ []) ys b rest e = ap (unless_last test x) e
front_kept test (x ∷ y ∷ xs) ys b rest e = ap (unless_last test x) (front_kept test (y ∷ xs) ys b rest e)

-- the end is dropped once
pub end_once : (test : ℕ → Bool) (xs : List ℕ) → before_all test (before_all test xs) ≡ before_all test xs
end_once test [] = refl
end_once test (x ∷ xs) = by_rest (before_all test xs) (end_once test xs)
  where
    by_rest : (kept : List ℕ) → before_all test kept ≡ kept
        → before_all test (unless_last test x kept) ≡ unless_last test x kept
    by_rest (y ∷ kept) e = ap (unless_last test x) e
    by_rest [] e = elim (cases_Bool (test x)) [
      | inl h ↦ rw h refl
      | inr h ↦ rw h (rw h refl)
    ]

-- which end is dropped first doesn't matter
pub either_end : (test : ℕ → Bool) (xs : List ℕ)
    → after_all test (before_all test xs) ≡ before_all test (after_all test xs)
either_end test [] = refl
either_end test (x ∷ xs) = elim (cases_Bool (test x)) [
  | inl h ↦ rw h (passes (before_all test xs) h ∙ either_end test xs)
  | inr h ↦ rw h (fails (before_all test xs) h)
]
  where
    passes : (kept : List ℕ) → test x ≡ true → after_all test (unless_last test x kept) ≡ after_all test kept
    passes [] h = rw h refl
    passes (y ∷ kept) h = rw h refl

    fails : (kept : List ℕ) → test x ≡ false → after_all test (unless_last test x kept) ≡ unless_last test x kept
    fails [] h = rw h (rw h refl)
    fails (y ∷ kept) h = rw h refl

-- the ends of a text whose end was dropped
pub ends_once : (test : ℕ → Bool) (xs : List ℕ) → text_between test (before_all test xs) ≡ text_between test xs
ends_once test xs = ap (before_all test) (either_end test xs) ∙ end_once test (after_all test xs)

-- what is kept of bytes that pass another test passes it
pub kept_pass : (test p : ℕ → Bool) (xs : List ℕ) → list_all p xs ≡ true → list_all p (before_all test xs) ≡ true
kept_pass test p xs h =
    let (end, _, e) = end-dropped test xs in
    let both = sym (list_all-append p (before_all test xs) end) ∙ (sym (ap (list_all p) e) ∙ h) in
    (and_parts (list_all p (before_all test xs)) (list_all p end) both).0
