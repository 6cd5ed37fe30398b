-- Lemmas on what stands in front of a text.
use Rattle.std.proofs.Common.{◌≡◌, ◌≢◌, ℕ, zero, suc, ◌+◌, ◌-◌, ◌*◌, ◌^◌, ◌<◌, ◌≤◌, List, [], ◌∷◌, ◌++◌, length, drop, take, get_or, map, refl, sym, ap, ◌∙◌, arith, true, false, inl, inr, Option, Some, None, le_trans, add-one}
use Rattle.std.specs.Prelude.{if◌then◌else◌, nat_lt, ◌==◌}
use Rattle.std.proofs.lemmas.List.{drop_more, drop_all, map_more, append-nil, append_assoc}
use Rattle.std.proofs.lemmas.Bool.{cases_Bool, and_parts, lt-ltb, le-ltb, eq-eqb, ne_eqb}
use Rattle.std.proofs.lemmas.Bool.Decides.{nat_tests}
use Rattle.std.specs.Char.{is_ascii_alphanumeric, is_ascii_digit, to_ascii_lowercase}
use Rattle.ul_version.specs.Reading.{lowercase_text, digits, after_digits, value_after, number, after_word, Cut, required_number, release, points, marked_digits, onto, is_separator, segment, segments, pieces_of, ◌>>=◌}
use Rattle.ul_version.specs.declared.fields.Segment.{Segment}
use Rattle.ul_version.specs.Fields.{is_word_byte}
use Rattle.std.specs.List.{list_all, onto_first}

-- ---- numbers

-- a digit has no other case
pub lower-digit : (b : ℕ) → is_ascii_digit b ≡ true → to_ascii_lowercase b ≡ b
lower-digit b h = grind (arith, nat_tests)

pub digit-lower : (b : ℕ) → is_ascii_digit (to_ascii_lowercase b) ≡ is_ascii_digit b
digit-lower b = grind (arith, nat_tests)

-- a value, if it fits, and the text after it
abbrev pub fitting : ℕ → List ℕ → Cut ℕ
fitting n rest = if nat_lt n (2 ^ 64) then Some (n, rest) else None

-- the number in front, after the digits of n
unfoldable pub number_from : ℕ → List ℕ → Cut ℕ
number_from n text = fitting (value_after n (digits text)) (after_digits text)

pub number_from-start : (text : List ℕ) → number text ≡ number_from 0 text
unfolding number number_from
number_from-start text = refl

value_after-grows : (n : ℕ) (ds : List ℕ) → n ≤ value_after n ds
unfolding value_after
value_after-grows n [] = omega arith
value_after-grows n (d ∷ ds) = let more = value_after-grows (n * 10 + (d - 48)) ds in omega arith

pub number_from-digit : (n : ℕ) (xs : List ℕ) (i : ℕ) → i < length xs → is_ascii_digit (get_or xs i 0) ≡ true
    → number_from n (lowercase_text (drop i xs)) ≡ number_from (n * 10 + (get_or xs i 0 - 48)) (lowercase_text (drop (i + 1) xs))
unfolding number_from digits after_digits value_after
number_from-digit n xs i h d = rw (drop_more xs i 0 h, lower-digit (get_or xs i 0) d, d) refl

pub number_from-over : (n : ℕ) (xs : List ℕ) (i : ℕ) → i < length xs → is_ascii_digit (get_or xs i 0) ≡ true
    → 2 ^ 64 ≤ n * 10 + (get_or xs i 0 - 48) → number_from n (lowercase_text (drop i xs)) ≡ None
unfolding number_from
number_from-over n xs i h d over =
    number_from-digit n xs i h d
    ∙ rw (le-ltb (value_after (n * 10 + (get_or xs i 0 - 48)) (digits (lowercase_text (drop (i + 1) xs)))) (2 ^ 64)
    (le_trans over (value_after-grows _ _))) refl

pub number_from-stop : (n : ℕ) (xs : List ℕ) (i : ℕ) → n < 2 ^ 64 → i < length xs → is_ascii_digit (get_or xs i 0) ≡ false
    → number_from n (lowercase_text (drop i xs)) ≡ Some (n, lowercase_text (drop i xs))
unfolding number_from digits after_digits value_after
number_from-stop n xs i fits h d = rw (drop_more xs i 0 h, digit-lower (get_or xs i 0), d, lt-ltb n (2 ^ 64) fits) refl

pub number_from-end : (n : ℕ) (xs : List ℕ) (i : ℕ) → n < 2 ^ 64 → length xs ≤ i → number_from n (lowercase_text (drop i xs)) ≡ Some (n, [])
unfolding number_from digits after_digits value_after
number_from-end n xs i fits h = rw (drop_all i xs h, lt-ltb n (2 ^ 64) fits) refl

-- ---- words

pub after_word-short : (word text : List ℕ) → length text < length word → after_word word text ≡ None
unfolding after_word
after_word-short [] text h = absurd (omega arith)
after_word-short (w ∷ word) [] h = refl
after_word-short (w ∷ word) (b ∷ rest) h = elim (cases_Bool (b == w)) [
  | inl same ↦ rw same (after_word-short word rest (omega arith))
  | inr other ↦ rw other refl
]

pub after_word-next : (word text : List ℕ) (i : ℕ) → i < length word → i < length text → to_ascii_lowercase (get_or text i 0) ≡ get_or word i 0
    → after_word (drop i word) (lowercase_text (drop i text)) ≡ after_word (drop (i + 1) word) (lowercase_text (drop (i + 1) text))
unfolding after_word
after_word-next word text i h k e = rw (drop_more word i 0 h, drop_more text i 0 k, eq-eqb (to_ascii_lowercase (get_or text i 0)) (get_or word i 0) e) refl

pub after_word-differs : (word text : List ℕ) (i : ℕ) → i < length word → i < length text → to_ascii_lowercase (get_or text i 0) ≢ get_or word i 0
    → after_word (drop i word) (lowercase_text (drop i text)) ≡ None
unfolding after_word
after_word-differs word text i h k e = rw (drop_more word i 0 h, drop_more text i 0 k, ne_eqb (to_ascii_lowercase (get_or text i 0)) (get_or word i 0) e) refl

pub after_word-end : (word text : List ℕ) (i : ℕ) → length word ≤ i → after_word (drop i word) text ≡ Some text
unfolding after_word
after_word-end word text i h = rw (drop_all i word h) refl

-- ---- releases

-- the point before a number of a release
abbrev pub point : List ℕ
point = 46 ∷ []

pub release-none : (text : List ℕ) → required_number text ≡ None → release text ≡ None
unfolding release
release-none text h = rw h refl

pub release-start : (text rest : List ℕ) (size n : ℕ) → length text ≡ size → required_number text ≡ Some (n, rest) → release text ≡ onto (n ∷ []) (points size rest)
unfolding release
release-start text rest size n e h = rw (h, e) refl

pub points-done : (ns text : List ℕ) (k : ℕ) → marked_digits point text ≡ None → onto ns (points k text) ≡ Some (ns, text)
unfolding points
points-done ns text zero h = rw (append-nil ns) refl
points-done ns text (suc k) h = rw (h, append-nil ns) refl

pub points-end : (ns text : List ℕ) (k : ℕ) → k ≡ 0 → onto ns (points k text) ≡ Some (ns, text)
unfolding points
points-end ns text k e = rw (e, append-nil ns) refl

onto-onto : (xs ys : List ℕ) (part : Cut (List ℕ)) → onto xs (onto ys part) ≡ onto (xs ++ ys) part
onto-onto xs ys None = refl
onto-onto xs ys (Some p) = rw append_assoc refl

pub points-next : (ns text digits rest : List ℕ) (n k m : ℕ) → k ≡ m + 1 → marked_digits point text ≡ Some digits → number digits ≡ Some (n, rest)
    → onto ns (points k text) ≡ onto (ns ++ n ∷ []) (points m rest)
unfolding points
points-next ns text digits rest n k m e h d = rw (e, add-one m, h, d) (onto-onto ns (n ∷ []) (points m rest))

pub points-over : (ns text digits : List ℕ) (k m : ℕ) → k ≡ m + 1 → marked_digits point text ≡ Some digits → number digits ≡ None → onto ns (points k text) ≡ None
unfolding points
points-over ns text digits k m e h d = rw (e, add-one m, h, d) refl

-- ---- segments

word_byte-lower : (b : ℕ) → is_word_byte (to_ascii_lowercase b) ≡ is_ascii_alphanumeric b
word_byte-lower b = grind (arith, nat_tests)

pub alphanumeric-lowered : (xs : List ℕ) → list_all is_word_byte (lowercase_text xs) ≡ list_all is_ascii_alphanumeric xs
alphanumeric-lowered [] = refl
alphanumeric-lowered (b ∷ xs) = rw (word_byte-lower b, alphanumeric-lowered xs) refl

pub numeric-lowered : (xs : List ℕ) → list_all is_ascii_digit (lowercase_text xs) ≡ list_all is_ascii_digit xs
numeric-lowered [] = refl
numeric-lowered (b ∷ xs) = rw (digit-lower b, numeric-lowered xs) refl

separator-lower : (b : ℕ) → is_separator (to_ascii_lowercase b) ≡ is_separator b
separator-lower b = grind (arith, nat_tests)

word_byte-ascii : (b : ℕ) → is_word_byte b ≡ true → b < 128
word_byte-ascii b h = grind (arith, nat_tests)

-- the bytes of a word are ASCII
pub word-ascii : (xs : List ℕ) (k : ℕ) → list_all is_word_byte (lowercase_text xs) ≡ true → k < length xs → to_ascii_lowercase (get_or xs k 0) < 128
word-ascii [] k h lt = absurd (omega arith)
word-ascii (x ∷ xs) zero h lt = word_byte-ascii (to_ascii_lowercase x) (and_parts (is_word_byte (to_ascii_lowercase x)) (list_all is_word_byte (lowercase_text xs)) h).0
word-ascii (x ∷ xs) (suc k) h lt = word-ascii xs k (and_parts (is_word_byte (to_ascii_lowercase x)) (list_all is_word_byte (lowercase_text xs)) h).1 (omega arith)

-- one byte more in lower case
pub lowered-more : (xs text : List ℕ) (k b : ℕ) → text ≡ lowercase_text (take k xs) → k < length xs → b ≡ to_ascii_lowercase (get_or xs k 0) → text ++ b ∷ [] ≡ lowercase_text (take (k + 1) xs)
lowered-more xs text k b e lt h = rw (e, h) (sym (map_more to_ascii_lowercase xs k 0 lt))

-- a step that gave something came from a step that gave something
pub bind_some : {X Y : Type 0} (o : Option X) (f : X → Option Y) (y : Y) → (o >>= f) ≡ Some y → (x : X) × (o ≡ Some x) × (f x ≡ Some y)
bind_some None f y e = cc e
bind_some (Some x) f y e = (x, refl, e)

-- segments before those of a part
abbrev pub joined : List Segment → Option (List Segment) → Option (List Segment)
joined ss part = part >>= λ ts. Some (ss ++ ts)

pub joined-start : (part : Option (List Segment)) (ss : List Segment) → ss ≡ [] → part ≡ joined ss part
joined-start None ss e = refl
joined-start (Some ts) ss e = rw e refl

pub pieces-none : (ss : List Segment) (piece : List ℕ) (pieces all : List (List ℕ)) → all ≡ piece ∷ pieces → segment piece ≡ None → joined ss (segments all) ≡ None
unfolding segments
pieces-none ss piece pieces all e h = rw (e, h) refl

pub pieces-next : (ss : List Segment) (s : Segment) (piece : List ℕ) (pieces all : List (List ℕ)) → all ≡ piece ∷ pieces → segment piece ≡ Some s
    → joined ss (segments all) ≡ joined (ss ++ s ∷ []) (segments pieces)
unfolding segments
pieces-next ss s piece pieces all e h = rw (e, h) (moved ss s (segments pieces))
  where
    moved : (xs : List Segment) (x : Segment) (part : Option (List Segment)) → joined xs (part >>= λ ts. Some (x ∷ ts)) ≡ joined (xs ++ x ∷ []) part
    moved xs x None = refl
    moved xs x (Some ts) = rw append_assoc refl

pub pieces-last : (ss : List Segment) (s : Segment) (piece : List ℕ) (all : List (List ℕ)) → all ≡ piece ∷ [] → segment piece ≡ Some s
    → joined ss (segments all) ≡ Some (ss ++ s ∷ [])
unfolding segments
pieces-last ss s piece all e h = rw (e, h) refl

onto-lowered : (b : ℕ) (pieces : List (List ℕ)) → onto_first (to_ascii_lowercase b) (map lowercase_text pieces) ≡ map lowercase_text (onto_first b pieces)
onto-lowered b [] = refl
onto-lowered b (piece ∷ pieces) = refl

-- the pieces of a text in lower case are those of the text
pub pieces-lowered : (xs : List ℕ) → pieces_of (lowercase_text xs) ≡ map lowercase_text (pieces_of xs)
pieces-lowered [] = refl
pieces-lowered (x ∷ xs) = elim (cases_Bool (is_separator x)) [
  | inl parts ↦ rw (separator-lower x, parts) (ap (λ ps. [] ∷ ps) (pieces-lowered xs))
  | inr stays ↦ rw (separator-lower x, stays) (ap (onto_first (to_ascii_lowercase x)) (pieces-lowered xs) ∙ onto-lowered x (pieces_of xs))
]
