-- Lemmas on the tokens of a text.
use Rattle.std.proofs.Common.{◌≡◌, ℕ, zero, suc, ◌+◌, ◌<◌, ◌≤◌, List, [], ◌∷◌, ◌++◌, length, drop, take, get_or, refl, sym, ap, add-one, arith, Bool, true, false, true≢false, inl, inr, ◌⊎◌, Option, Some, None}
use Rattle.std.specs.Prelude.{◌&&◌, not, ◌==◌, codes}
use Rattle.std.specs.List.{list_all}
use Rattle.std.specs.Str.{IsUtf8}
use Rattle.std.proofs.lemmas.List.{drop_more, drop_all, length-drop, append-nil, append_assoc}
use Rattle.std.proofs.lemmas.Bool.{and_parts, and_from, cases_Bool, eqb-true}
use Rattle.std.proofs.lemmas.Bool.Decides.{nat_tests}
use Rattle.std.proofs.lemmas.Str.{IsUtf8-from_ascii}
use Rattle.std.proofs.lemmas.Str.Ascii.{IsAscii-from_all}
use Rattle.ul_version.specs.Reading.{◌>>=◌, or_else}
use Rattle.ul_version.proofs.ForCallers.{bind_some}
use Rattle.ul_version.proofs.ForCallers.{cond_some, inside}
use Rattle.ul_specifier.specs.Reading.{after_all, after_front, after_operator, is_blank, operator}
use Rattle.ul_specifier.specs.declared.clause.Op.{Op}
use Rattle.ul_specifier.specs.declared.clause.Op.TheVariants.{Equal, Unequal, AtLeast, AtMost, More, Less, Compatible}
use Rattle.ul_comparison.specs.Atoms.{is_literal, is_literal_byte, has_byte}
use Rattle.ul_marker.specs.Words.{after_quote, front_literal, front_sign, front_token, front_word, is_quote, is_quoted, is_sign_byte, is_word_byte, run_length, tokens_in, tokens_of, word_token}
use Rattle.ul_marker.specs.declared.words.Token.{Token}
use Rattle.ul_marker.specs.declared.words.Token.TheVariants.{Open, Close, Sign, Literal}

-- ---- a pair in an answer

pub first-of : {X Y : Type 0} (x x' : X) (y y' : Y) → ◌≡◌ {A = Option (X × Y)} (Some (x, y)) (Some (x', y')) → x ≡ x'
first-of {X} {Y} x x' y y' e = ap (λ (p : X × Y). p.0) (inside (x, y) (x', y') e)

pub second-of : {X Y : Type 0} (x x' : X) (y y' : Y) → ◌≡◌ {A = Option (X × Y)} (Some (x, y)) (Some (x', y')) → y ≡ y'
second-of {X} {Y} x x' y y' e = ap (λ (p : X × Y). p.1) (inside (x, y) (x', y') e)

-- ---- runs of bytes

pub run-more : (test : ℕ → Bool) (xs : List ℕ) (i : ℕ) → i < length xs → test (get_or xs i 0) ≡ true → run_length test (drop i xs) ≡ run_length test (drop (i + 1) xs) + 1
run-more test xs i h w = rw (drop_more xs i 0 h, w) refl

pub run-stop : (test : ℕ → Bool) (xs : List ℕ) (i : ℕ) → i < length xs → test (get_or xs i 0) ≡ false → run_length test (drop i xs) ≡ 0
run-stop test xs i h w = rw (drop_more xs i 0 h, w) refl

pub run-end : (test : ℕ → Bool) (xs : List ℕ) (i : ℕ) → length xs ≤ i → run_length test (drop i xs) ≡ 0
run-end test xs i h = rw (drop_all i xs h) refl

pub run-all : (test : ℕ → Bool) (xs : List ℕ) → list_all test (take (run_length test xs) xs) ≡ true
run-all test [] = refl
run-all test (x ∷ xs) = elim (cases_Bool (test x)) [
  | inl passes ↦ rw (passes, add-one) (rw passes (run-all test xs))
  | inr fails ↦ rw fails refl
]

-- ---- literals

quoted-literal : (q b : ℕ) → is_quoted q b ≡ true → is_literal_byte b ≡ true
quoted-literal q b h = (and_parts (is_literal_byte b) _ h).0

pub all-literal : (q : ℕ) (bytes : List ℕ) → list_all (is_quoted q) bytes ≡ true → list_all is_literal_byte bytes ≡ true
all-literal q [] h = refl
all-literal q (b ∷ bytes) h =
    let p = and_parts (is_quoted q b) (list_all (is_quoted q) bytes) h in
    and_from (is_literal_byte b) (list_all is_literal_byte bytes) (quoted-literal q b p.0) (all-literal q bytes p.1)

other-byte : (q b : ℕ) → is_quoted q b ≡ true → (b == q) ≡ false
other-byte q b h = grind (arith, nat_tests)

no-quote : (q : ℕ) (bytes : List ℕ) → list_all (is_quoted q) bytes ≡ true → has_byte q bytes ≡ false
no-quote q [] h = refl
no-quote q (b ∷ bytes) h =
    let p = and_parts (is_quoted q b) (list_all (is_quoted q) bytes) h in
    rw (other-byte q b p.0) (no-quote q bytes p.1)

not-both : (x y : Bool) → (x ≡ false) ⊎ (y ≡ false) → not (x && y) ≡ true
not-both false y h = refl
not-both true false h = refl
not-both true true (inl e) = absurd (true≢false e)
not-both true true (inr e) = absurd (true≢false e)

quote-cases : (q : ℕ) → is_quote q ≡ true → (q ≡ 39) ⊎ (q ≡ 34)
quote-cases q h = elim (cases_Bool (q == 39)) [
  | inl one ↦ inl (eqb-true q 39 one)
  | inr other ↦ inr (eqb-true q 34 (rw other at h))
]

-- bytes that stand in quotes are a literal
pub quoted-is_literal : (q : ℕ) (bytes : List ℕ) → is_quote q ≡ true → list_all (is_quoted q) bytes ≡ true → is_literal bytes ≡ true
quoted-is_literal q bytes h all =
    and_from (list_all is_literal_byte bytes) _ (all-literal q bytes all)
    (not-both (has_byte 39 bytes) (has_byte 34 bytes) (elim (quote-cases q h) [
      | inl one ↦ inl (rw one at (no-quote q bytes all))
      | inr two ↦ inr (rw two at (no-quote q bytes all))
    ]))

literal_byte-ascii : (b : ℕ) → is_literal_byte b ≡ true → b < 128
literal_byte-ascii b h = grind (arith, nat_tests)

ascii_at : (xs : List ℕ) (k d : ℕ) → list_all is_literal_byte xs ≡ true → k < length xs → get_or xs k d < 128
ascii_at [] k d h lt = absurd (omega arith)
ascii_at (x ∷ xs) zero d h lt = literal_byte-ascii x (and_parts (is_literal_byte x) (list_all is_literal_byte xs) h).0
ascii_at (x ∷ xs) (suc k) d h lt = ascii_at xs k d (and_parts (is_literal_byte x) (list_all is_literal_byte xs) h).1 (omega arith)

-- bytes of a literal are text
pub literal-utf8 : (xs : List ℕ) → list_all is_literal_byte xs ≡ true → IsUtf8 xs
literal-utf8 xs h = IsUtf8-from_ascii xs (IsAscii-from_all xs (λ k d lt. ascii_at xs k d h lt))

-- ---- what stands in front is shorter

pub after_all-le : (test : ℕ → Bool) (xs : List ℕ) → length (after_all test xs) ≤ length xs
after_all-le test [] = omega arith
after_all-le test (x ∷ xs) = elim (cases_Bool (test x)) [
  | inl passes ↦ rw passes (let r = after_all-le test xs in omega arith)
  | inr fails ↦ rw fails (omega arith)
]

-- an operator in front leaves at most so many bytes
abbrev Leaves : ℕ → Option (Op × List ℕ) → Type 0
Leaves n found = (op : Op) (after : List ℕ) → found ≡ Some (op, after) → length after ≤ n

leaves-either : (n : ℕ) (x y : Option (Op × List ℕ)) → Leaves n x → Leaves n y → Leaves n (or_else x y)
leaves-either n None y f g = g
leaves-either n (Some p) y f g = f

leaves-word : (w : ℕ) (word : List ℕ) (op : Op) (b : ℕ) (rest : List ℕ) → Leaves (length rest) (after_operator (w ∷ word) op (b ∷ rest))
leaves-word w word op b rest found after e =
    let (left, is, some) = bind_some (after_front (w ∷ word) (b ∷ rest)) _ _ e in
    let (starts, same) = cond_some _ (Some (drop (length word) rest)) left is in
    let last : after ≡ left = sym (second-of op found left after some) in
    rw (last, sym (inside _ left same)) (omega (arith, length-drop (length word) rest))

operator-leaves : (b : ℕ) (rest : List ℕ) → Leaves (length rest) (operator (b ∷ rest))
unfolding operator
operator-leaves b rest =
    let n = length rest in
    leaves-either n _ _ (leaves-word 61 (codes "=") Equal b rest)
    (leaves-either n _ _ (leaves-word 33 (codes "=") Unequal b rest)
    (leaves-either n _ _ (leaves-word 62 (codes "=") AtLeast b rest)
    (leaves-either n _ _ (leaves-word 60 (codes "=") AtMost b rest)
    (leaves-either n _ _ (leaves-word 126 (codes "=") Compatible b rest)
    (leaves-either n _ _ (leaves-word 62 [] More b rest) (leaves-word 60 [] Less b rest))))))

sign-leaves : (b : ℕ) (rest : List ℕ) (t : Token) (after : List ℕ) → front_sign (b ∷ rest) ≡ Some (t, after) → length after ≤ length rest
unfolding front_sign
sign-leaves b rest t after e =
    let (o, is, some) = bind_some (operator (b ∷ rest)) _ _ e in
    let same : after ≡ o.1 = sym (second-of (Sign o.0) t o.1 after some) in
    rw same (operator-leaves b rest o.0 o.1 is)

word-leaves : (n : ℕ) (b : ℕ) (rest : List ℕ) (t : Token) (after : List ℕ)
    → ◌>>=◌ {Y = Token × List ℕ} (word_token (take n (b ∷ rest))) (λ w. Some (w, drop n (b ∷ rest))) ≡ Some (t, after) → length after ≤ length rest
unfolding word_token
word-leaves zero b rest t after e = absurd (cc e)
word-leaves (suc n) b rest t after e =
    let (w, is, some) = bind_some (word_token (take (suc n) (b ∷ rest))) _ _ e in
    let same : after ≡ drop n rest = sym (second-of w t (drop n rest) after some) in
    rw same (omega (arith, length-drop n rest))

quote-leaves : (q : ℕ) (xs after : List ℕ) → after_quote q xs ≡ Some after → length after ≤ length xs
quote-leaves q [] after e = absurd (cc e)
quote-leaves q (x ∷ xs) after e =
    let (is, some) = cond_some (x == q) _ _ e in
    let same : after ≡ xs = cc some in
    rw same (omega arith)

literal-leaves : (q : ℕ) (rest : List ℕ) (t : Token) (after : List ℕ) → front_literal q rest ≡ Some (t, after) → length after ≤ length rest
unfolding front_literal
literal-leaves q rest t after e =
    let n = run_length (is_quoted q) rest in
    let (left, is, some) = bind_some (after_quote q (drop n rest)) _ _ e in
    let same : after ≡ left = sym (second-of (Literal (take n rest)) t left after some) in
    rw same (omega (arith, quote-leaves q (drop n rest) left is, length-drop n rest))

front-word-leaves : (b : ℕ) (rest : List ℕ) (t : Token) (after : List ℕ) → front_word (b ∷ rest) ≡ Some (t, after) → length after ≤ length rest
unfolding front_word
front-word-leaves b rest t after e = word-leaves (run_length is_word_byte (b ∷ rest)) b rest t after e

token-leaves : (b : ℕ) (rest : List ℕ) (t : Token) (after : List ℕ) → front_token (b ∷ rest) ≡ Some (t, after) → length after ≤ length rest
unfolding front_token
token-leaves b rest t after e = elim (cases_Bool (b == 40)) [
  | inl open_one ↦ let same : after ≡ rest = sym (second-of Open t rest after (rw open_one at e)) in rw same (omega arith)
  | inr n1 ↦ let e1 = rw n1 at e in elim (cases_Bool (b == 41)) [
    | inl close_one ↦ let same : after ≡ rest = sym (second-of Close t rest after (rw close_one at e1)) in rw same (omega arith)
    | inr n2 ↦ let e2 = rw n2 at e1 in elim (cases_Bool (is_quote b)) [
      | inl quote ↦ literal-leaves b rest t after (rw quote at e2)
      | inr n3 ↦ let e3 = rw n3 at e2 in elim (cases_Bool (is_sign_byte b)) [
        | inl sign ↦ sign-leaves b rest t after (rw sign at e3)
        | inr n4 ↦ front-word-leaves b rest t after (rw n4 at e3)
      ]
    ]
  ]
]

-- ---- the tokens of a text

turns-same : (n m : ℕ) (text : List ℕ) → length text ≤ n → length text ≤ m → tokens_in n text ≡ tokens_in m text
unfolding tokens_in
turns-same zero zero text h k = refl
turns-same zero (suc m) [] h k = refl
turns-same zero (suc m) (b ∷ text) h k = absurd (omega arith)
turns-same (suc n) zero [] h k = refl
turns-same (suc n) zero (b ∷ text) h k = absurd (omega arith)
turns-same (suc n) (suc m) [] h k = refl
turns-same (suc n) (suc m) (b ∷ text) h k = go (front_token (b ∷ text)) refl (turns-same n m)
  where
    go : (front : Option (Token × List ℕ)) → front_token (b ∷ text) ≡ front
        → ((rest : List ℕ) → length rest ≤ n → length rest ≤ m → tokens_in n rest ≡ tokens_in m rest)
        → (front >>= λ t. tokens_in n (after_all is_blank t.1) >>= λ ts. Some (t.0 ∷ ts)) ≡ (front >>= λ t. tokens_in m (after_all is_blank t.1) >>= λ ts. Some (t.0 ∷ ts))
    go None e same = refl
    go (Some t) e same =
        let left = token-leaves b text t.0 t.1 e in
        let le = after_all-le is_blank t.1 in
        rw (same (after_all is_blank t.1) (omega arith) (omega arith)) refl

-- tokens before those of a part
abbrev pub onto : List Token → Option (List Token) → Option (List Token)
onto ts part = part >>= λ us. Some (ts ++ us)

pub tokens-next : (text : List ℕ) (t : Token) (after : List ℕ) → front_token text ≡ Some (t, after) → tokens_of text ≡ onto (t ∷ []) (tokens_of (after_all is_blank after))
unfolding tokens_of tokens_in front_token
tokens-next [] t after e = absurd (cc e)
tokens-next (b ∷ rest) t after e =
    let le = after_all-le is_blank after in
    let left = token-leaves b rest t after e in
    rw (e, turns-same (length rest) (length (after_all is_blank after)) (after_all is_blank after) (omega arith) (omega arith)) refl

pub tokens-shorter : (text : List ℕ) (t : Token) (after : List ℕ) → front_token text ≡ Some (t, after) → length (after_all is_blank after) < length text
unfolding front_token
tokens-shorter [] t after e = absurd (cc e)
tokens-shorter (b ∷ rest) t after e =
    let le = after_all-le is_blank after in
    let left = token-leaves b rest t after e in
    omega arith

pub tokens-none : (text : List ℕ) → 0 < length text → front_token text ≡ None → tokens_of text ≡ None
unfolding tokens_of tokens_in
tokens-none [] h e = absurd (omega arith)
tokens-none (b ∷ rest) h e = rw e refl

pub tokens-empty : (text : List ℕ) → length text ≡ 0 → tokens_of text ≡ Some []
unfolding tokens_of tokens_in
tokens-empty [] h = refl
tokens-empty (b ∷ rest) h = absurd (omega arith)

-- ---- a list that grows

onto-push : (ts : List Token) (t : Token) (part : Option (List Token)) → onto ts (onto (t ∷ []) part) ≡ onto (ts ++ t ∷ []) part
onto-push ts t None = refl
onto-push ts t (Some us) = ap (λ (l : List Token). Some l) (sym (append_assoc ts (t ∷ []) us))

pub onto-next : (text : List ℕ) (t : Token) (after : List ℕ) (ts us : List Token) → front_token text ≡ Some (t, after) → us ≡ ts ++ t ∷ []
    → onto ts (tokens_of text) ≡ onto us (tokens_of (after_all is_blank after))
onto-next text t after ts us e so = rw (tokens-next text t after e, so) (onto-push ts t _)

pub onto-none : (text : List ℕ) (ts : List Token) → 0 < length text → front_token text ≡ None → onto ts (tokens_of text) ≡ None
onto-none text ts h e = rw (tokens-none text h e) refl

pub onto-end : (text : List ℕ) (ts : List Token) → length text ≡ 0 → onto ts (tokens_of text) ≡ Some ts
onto-end text ts h = rw (tokens-empty text h) (ap (λ (l : List Token). Some l) (append-nil ts))
