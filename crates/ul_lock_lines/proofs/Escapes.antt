-- Bytes are walked one by one: what is written, and what is left.
use Rattle.std.proofs.Common.{Bool, true, false, ◌&&◌, ◌≡◌, ◌∙◌, ◌++◌, ◌∷◌, [], ℕ, ◌+◌, ◌<◌, ◌≤◌, List, length, drop, get_or, ap, sym, refl, subst, append_assoc}
use Rattle.std.specs.List.{list_all}
use Rattle.std.proofs.lemmas.Bool.{ne_eqb}
use Rattle.std.proofs.lemmas.List.{append-nil, at_drop_more, drop_all}
use Rattle.ul_lock_lines.specs.Text.{escaped}
use Rattle.ul_lock_lines.specs.LineReading.{unescaped}

-- a byte's text is written behind those of the bytes before it
walked_on : (text : List ℕ → List ℕ) (bytes before after written : List ℕ) (i : ℕ) → i < length bytes → after ≡ before ++ written → text (get_or bytes i 0 ∷ drop (i + 1) bytes) ≡ written ++ text (drop (i + 1) bytes) → before ++ text (drop i bytes) ≡ text bytes → after ++ text (drop (i + 1) bytes) ≡ text bytes
walked_on text bytes before after written i there grows is so_far =
    ap (λ (o : List ℕ). o ++ text (drop (i + 1) bytes)) grows ∙ append_assoc before written (text (drop (i + 1) bytes))
    ∙ ap (λ (r : List ℕ). before ++ r) (sym is ∙ sym (at_drop_more text bytes i 0 there)) ∙ so_far

-- at the end nothing is left
pub walked_all : (text : List ℕ → List ℕ) (bytes written : List ℕ) (i : ℕ) → length bytes ≤ i → text [] ≡ [] → written ++ text (drop i bytes) ≡ text bytes → written ≡ text bytes
walked_all text bytes written i all none so_far = sym (append-nil written) ∙ ap (λ (r : List ℕ). written ++ r) (sym none ∙ ap text (sym (drop_all i bytes all))) ∙ so_far

escaped_quote : (x : ℕ) (xs : List ℕ) → x ≡ 34 → escaped (x ∷ xs) ≡ 92 ∷ x ∷ escaped xs
escaped_quote x xs e = subst (λ (y : ℕ). escaped (y ∷ xs) ≡ 92 ∷ y ∷ escaped xs) (sym e) refl

escaped_other : (x : ℕ) (xs : List ℕ) → (x ≡ 34 → ⊥) → escaped (x ∷ xs) ≡ x ∷ escaped xs
escaped_other x xs n = rw (ne_eqb x 34 n) refl

unescaped_backslash : (x : ℕ) (xs : List ℕ) → x ≡ 92 → unescaped (x ∷ xs) ≡ unescaped xs
unescaped_backslash x xs e = subst (λ (y : ℕ). unescaped (y ∷ xs) ≡ unescaped xs) (sym e) refl

unescaped_other : (x : ℕ) (xs : List ℕ) → (x ≡ 92 → ⊥) → unescaped (x ∷ xs) ≡ x ∷ unescaped xs
unescaped_other x xs n = rw (ne_eqb x 92 n) refl

-- a quote is written behind a backslash
pub quote_written : (bytes before between after : List ℕ) (i : ℕ) → i < length bytes → get_or bytes i 0 ≡ 34 → between ≡ before ++ 92 ∷ [] → after ≡ between ++ get_or bytes i 0 ∷ [] → before ++ escaped (drop i bytes) ≡ escaped bytes → after ++ escaped (drop (i + 1) bytes) ≡ escaped bytes
quote_written bytes before between after i there is first then =
    walked_on escaped bytes before after (92 ∷ get_or bytes i 0 ∷ []) i there
    (then ∙ ap (λ (o : List ℕ). o ++ get_or bytes i 0 ∷ []) first ∙ append_assoc before (92 ∷ []) (get_or bytes i 0 ∷ []))
    (escaped_quote (get_or bytes i 0) (drop (i + 1) bytes) is)

-- another byte is written as it stands
pub other_written : (bytes before after : List ℕ) (i : ℕ) → i < length bytes → (get_or bytes i 0 ≡ 34 → ⊥) → after ≡ before ++ get_or bytes i 0 ∷ [] → before ++ escaped (drop i bytes) ≡ escaped bytes → after ++ escaped (drop (i + 1) bytes) ≡ escaped bytes
other_written bytes before after i there not grows = walked_on escaped bytes before after (get_or bytes i 0 ∷ []) i there grows (escaped_other (get_or bytes i 0) (drop (i + 1) bytes) not)

-- a backslash is left out
pub backslash_left : (bytes before : List ℕ) (i : ℕ) → i < length bytes → get_or bytes i 0 ≡ 92 → before ++ unescaped (drop i bytes) ≡ unescaped bytes → before ++ unescaped (drop (i + 1) bytes) ≡ unescaped bytes
backslash_left bytes before i there is = walked_on unescaped bytes before before [] i there (sym (append-nil before)) (unescaped_backslash (get_or bytes i 0) (drop (i + 1) bytes) is)

-- another byte is kept
pub other_kept : (bytes before after : List ℕ) (i : ℕ) → i < length bytes → (get_or bytes i 0 ≡ 92 → ⊥) → after ≡ before ++ get_or bytes i 0 ∷ [] → before ++ unescaped (drop i bytes) ≡ unescaped bytes → after ++ unescaped (drop (i + 1) bytes) ≡ unescaped bytes
other_kept bytes before after i there not grows = walked_on unescaped bytes before after (get_or bytes i 0 ∷ []) i there grows (unescaped_other (get_or bytes i 0) (drop (i + 1) bytes) not)

all_rest : (passes rest : Bool) → passes ≡ true → (passes && rest) ≡ rest
all_rest passes rest e = rw e refl

none_rest : (passes rest : Bool) → passes ≡ false → (passes && rest) ≡ false
none_rest passes rest e = rw e refl

-- a byte passes a test, as those before it do
pub passed_on : (test : ℕ → Bool) (bytes : List ℕ) (i : ℕ) → i < length bytes → test (get_or bytes i 0) ≡ true → list_all test (drop i bytes) ≡ list_all test bytes → list_all test (drop (i + 1) bytes) ≡ list_all test bytes
passed_on test bytes i there passes so_far =
    sym (at_drop_more (list_all test) bytes i 0 there ∙ all_rest (test (get_or bytes i 0)) (list_all test (drop (i + 1) bytes)) passes) ∙ so_far

-- a byte fails the test
pub failed_at : (test : ℕ → Bool) (bytes : List ℕ) (i : ℕ) → i < length bytes → test (get_or bytes i 0) ≡ false → list_all test (drop i bytes) ≡ list_all test bytes → false ≡ list_all test bytes
failed_at test bytes i there fails so_far =
    sym (at_drop_more (list_all test) bytes i 0 there ∙ none_rest (test (get_or bytes i 0)) (list_all test (drop (i + 1) bytes)) fails) ∙ so_far

-- all bytes pass the test
pub passed_all : (test : ℕ → Bool) (bytes : List ℕ) (i : ℕ) → length bytes ≤ i → list_all test (drop i bytes) ≡ list_all test bytes → true ≡ list_all test bytes
passed_all test bytes i all so_far = ap (list_all test) (sym (drop_all i bytes all)) ∙ so_far
