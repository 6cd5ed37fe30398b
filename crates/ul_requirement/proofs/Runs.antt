-- Bytes of ASCII are a text.
use Rattle.std.proofs.Common.{◌≡◌, ℕ, zero, suc, ◌<◌, List, [], ◌∷◌, ◌++◌, length, get_or, refl, sym, ap, ◌∙◌, arith, Bool, true, Option, Some, None, inl, inr}
use Rattle.std.specs.Prelude.{◌&&◌, IfSome}
use Rattle.std.specs.Borrow.{Bor}
use Rattle.std.proofs.lemmas.Bool.{and_parts, and_from, cases_Bool}
use Rattle.std.proofs.lemmas.Bool.Decides.{nat_tests}
use Rattle.std.proofs.lemmas.Str.{IsUtf8-from_ascii}
use Rattle.std.proofs.lemmas.Str.Ascii.{IsAscii-from_all}
use Rattle.std.specs.Str.{IsUtf8}
use Rattle.std.specs.List.{list_all}
use Rattle.ul_base.specs.Names.{is_name, is_name_byte, has_ends, name_of}
use Rattle.ul_version.specs.Ascii.{after_all, before_all, semicolon, text_between, unless_last}
use Rattle.ul_requirement.specs.Answers.{text_view}
use Rattle.ul_requirement.specs.Reading.{cut_at, is_inner_byte, parts_at, parts_of}
use Rattle.ul_requirement.proofs.Cutting.{cut-is}

run_at : (p : ℕ → Bool) → ((b : ℕ) → p b ≡ true → b < 128) → (xs : List ℕ) (k d : ℕ) → list_all p xs ≡ true → k < length xs → get_or xs k d < 128
run_at p small [] k d h lt = absurd (omega arith)
run_at p small (x ∷ xs) zero d h lt = small x (and_parts (p x) (list_all p xs) h).0
run_at p small (x ∷ xs) (suc k) d h lt = run_at p small xs k d (and_parts (p x) (list_all p xs) h).1 (omega arith)

run-utf8 : (p : ℕ → Bool) → ((b : ℕ) → p b ≡ true → b < 128) → (xs : List ℕ) → list_all p xs ≡ true → IsUtf8 xs
run-utf8 p small xs h = IsUtf8-from_ascii xs (IsAscii-from_all xs (λ k d lt. run_at p small xs k d h lt))

inner-small : (b : ℕ) → is_inner_byte b ≡ true → b < 128
inner-small b h = grind (arith, nat_tests)

name-small : (b : ℕ) → is_name_byte b ≡ true → b < 128
name-small b h = grind (arith, nat_tests)

-- what stands behind the extras is a text
pub inner-utf8 : (xs : List ℕ) → list_all is_inner_byte xs ≡ true → IsUtf8 xs
inner-utf8 xs h = run-utf8 is_inner_byte inner-small xs h

-- what is no text is no name
pub no_name : (xs : List ℕ) → (IsUtf8 xs → ⊥) → name_of xs ≡ None
unfolding name_of is_name
no_name xs other_bytes = elim (cases_Bool (has_ends xs && list_all is_name_byte xs)) [
  | inl named ↦ absurd (other_bytes (run-utf8 is_name_byte name-small xs (and_parts (has_ends xs) (list_all is_name_byte xs) named).1))
  | inr other ↦ rw other refl
]

-- ---- parts of a text whose bytes all pass a test

pub all-after : (p test : ℕ → Bool) (xs : List ℕ) → list_all p xs ≡ true → list_all p (after_all test xs) ≡ true
all-after p test [] h = refl
all-after p test (x ∷ xs) h = elim (cases_Bool (test x)) [
  | inl skipped ↦ rw skipped (all-after p test xs (and_parts (p x) (list_all p xs) h).1)
  | inr kept ↦ rw kept h
]

all-unless : (p test : ℕ → Bool) (x : ℕ) (xs : List ℕ) → p x ≡ true → list_all p xs ≡ true → list_all p (unless_last test x xs) ≡ true
all-unless p test x [] here h = elim (cases_Bool (test x)) [
  | inl skipped ↦ rw skipped refl
  | inr kept ↦ rw kept (and_from (p x) true here refl)
]
all-unless p test x (y ∷ xs) here h = and_from (p x) (list_all p (y ∷ xs)) here h

all-before : (p test : ℕ → Bool) (xs : List ℕ) → list_all p xs ≡ true → list_all p (before_all test xs) ≡ true
all-before p test [] h = refl
all-before p test (x ∷ xs) h =
    let q = and_parts (p x) (list_all p xs) h in all-unless p test x (before_all test xs) q.0 (all-before p test xs q.1)

pub all-between : (p test : ℕ → Bool) (xs : List ℕ) → list_all p xs ≡ true → list_all p (text_between test xs) ≡ true
all-between p test xs h = all-before p test (after_all test xs) (all-after p test xs h)

-- the text that may stand behind the semicolon passes too
abbrev pub MayPass : (ℕ → Bool) → Option (List ℕ) → Type 0
MayPass p o = IfSome o (λ text. list_all p text ≡ true)

all-front : (p : ℕ → Bool) (xs ys : List ℕ) → list_all p (xs ++ ys) ≡ true → list_all p xs ≡ true
all-front p [] ys h = refl
all-front p (x ∷ xs) ys h =
    let q = and_parts (p x) (list_all p (xs ++ ys)) h in and_from (p x) (list_all p xs) q.0 (all-front p xs ys q.1)

all-back : (p : ℕ → Bool) (xs ys : List ℕ) → list_all p (xs ++ ys) ≡ true → list_all p ys ≡ true
all-back p [] ys h = h
all-back p (x ∷ xs) ys h = all-back p xs ys (and_parts (p x) (list_all p (xs ++ ys)) h).1

parts-pass : (p : ℕ → Bool) (text : List ℕ) (o : Option (List ℕ × List ℕ)) → cut_at semicolon text ≡ o → list_all p text ≡ true
    → (list_all p (parts_at text o).0 ≡ true) × MayPass p (parts_at text o).1
parts-pass p text None cut h = (h, tt)
parts-pass p text (Some q) cut h =
    let t = cut-is semicolon text q cut in
    let whole : list_all p (q.0 ++ semicolon ∷ q.1) ≡ true = ap (list_all p) (sym t.0) ∙ h in
    (all-front p q.0 (semicolon ∷ q.1) whole, (and_parts (p semicolon) (list_all p q.1) (all-back p q.0 (semicolon ∷ q.1) whole)).1)

pub all-parts : (p : ℕ → Bool) (text : List ℕ) → list_all p text ≡ true → (list_all p (parts_of text).0 ≡ true) × MayPass p (parts_of text).1
all-parts p text h = parts-pass p text (cut_at semicolon text) refl h

pub pass-viewed : (p : ℕ → Bool) (o : Option (Bor (List ℕ))) → MayPass p (text_view o) → IfSome o (λ text. list_all p text.now ≡ true)
pass-viewed p None h = tt
pass-viewed p (Some text) h = h
