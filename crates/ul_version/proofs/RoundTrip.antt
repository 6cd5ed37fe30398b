-- The normal text of a version reads as the same version.
use Rattle.std.proofs.Common.{◌≡◌, ℕ, zero, suc, ◌^◌, ◌<◌, ◌≤◌, List, [], ◌∷◌, ◌++◌, length, refl, sym, ap, arith, rules, true, false, true≢false, inl, inr, Option, Some, None}
use Rattle.std.specs.Prelude.{◌==◌, codes, All, IfSome}
use Rattle.std.specs.List.{list_all, list_any, slice_split}
use Rattle.std.specs.Fmt.{decimal}
use Rattle.std.proofs.lemmas.List.{append_assoc, append-nil, length-append}
use Rattle.std.proofs.lemmas.List.Splits.{slice_split_none, slice_split_at}
use Rattle.std.proofs.lemmas.Bool.{cases_Bool, lt-ltb, eqb-true, ne_eqb, and_from, and_right, and_parts, or_cases, or_left}
use Rattle.std.proofs.lemmas.Bool.Decides.{nat_tests}
use Rattle.std.proofs.lemmas.Fmt.{digits_decimal, digits_value-decimal, decimal_nonempty}
use Rattle.std.proofs.lemmas.Str.Parse.{IsNumeralModel, numerals_by_fold}
use Rattle.std.specs.Char.{is_ascii_digit, is_ascii_lowercase, to_ascii_lowercase}
use Rattle.ul_version.specs.Fields.{Fields, IsVersion, IsNumber64, IsSegment, is_word_byte}
use Rattle.ul_version.specs.Texts.{epoch_text, points_text, release_text, kind_text, pre_text, numbered_text, segment_text, segments_text, local_text, version_text, is_text_byte}
use Rattle.ul_version.specs.Ascii.{unless_last}
use Rattle.ul_version.specs.Reading.{number, value_after, digits, after_digits, required_number, begins, epoch, marked_digits, after_word, points, release, pre, any_kind, suffix_number, after_optional, is_separator, post, dev, segment, segments, local, fields_of, version_of, lowercase_text, before_white, after_white, is_white}
use Rattle.ul_version.specs.declared.fields.Pre.{Pre}
use Rattle.ul_version.specs.declared.fields.PreKind.{PreKind}
use Rattle.ul_version.specs.declared.fields.PreKind.TheVariants.{A, B, Rc}
use Rattle.ul_version.specs.declared.fields.Segment.{Segment}
use Rattle.ul_version.specs.declared.fields.Segment.TheVariants.{Number, Word}
use Rattle.ul_version.proofs.Bounds.{All-first, All-rest}

-- ---- decimals

own : IsNumeralModel (λ ds. list_all is_ascii_digit ds ≡ true) (value_after 0)
unfolding value_after
own = numerals_by_fold _ (search rules) value_after (search rules)

decimal-digits : (n : ℕ) → n < 2 ^ 64 → list_all is_ascii_digit (decimal n) ≡ true
decimal-digits n h = digits_decimal own n h

decimal-value : (n : ℕ) → n < 2 ^ 64 → value_after 0 (decimal n) ≡ n
decimal-value n h = digits_value-decimal own n h

-- a decimal begins with a digit
pub record FirstDigit (text : List ℕ) : Type 0 where
  pub first : ℕ
  pub others : List ℕ
  pub shape : text ≡ first ∷ others
  pub digit : is_ascii_digit first ≡ true

pub first_digit : (text : List ℕ) → 0 < length text → list_all is_ascii_digit text ≡ true → FirstDigit text
first_digit [] h a = absurd (omega arith)
first_digit (b ∷ rest) h a = record { first = b; others = rest; shape = refl; digit = (and_parts (is_ascii_digit b) (list_all is_ascii_digit rest) a).0 }

decimal-first : (n : ℕ) → n < 2 ^ 64 → FirstDigit (decimal n)
decimal-first n h = first_digit (decimal n) (decimal_nonempty n h) (decimal-digits n h)

digits-append : (ds rest : List ℕ) → list_all is_ascii_digit ds ≡ true → begins is_ascii_digit rest ≡ false → digits (ds ++ rest) ≡ ds
unfolding digits
digits-append [] [] a b = refl
digits-append [] (x ∷ rest) a b = rw b refl
digits-append (d ∷ ds) rest a b =
    let (first, others) = and_parts (is_ascii_digit d) (list_all is_ascii_digit ds) a in
    rw first (ap (λ (l : List ℕ). d ∷ l) (digits-append ds rest others b))

after_digits-append : (ds rest : List ℕ) → list_all is_ascii_digit ds ≡ true → begins is_ascii_digit rest ≡ false → after_digits (ds ++ rest) ≡ rest
unfolding after_digits
after_digits-append [] [] a b = refl
after_digits-append [] (x ∷ rest) a b = rw b refl
after_digits-append (d ∷ ds) rest a b =
    let (first, others) = and_parts (is_ascii_digit d) (list_all is_ascii_digit ds) a in
    rw first (after_digits-append ds rest others b)

pub number-digits : (ds rest : List ℕ) (n : ℕ) → list_all is_ascii_digit ds ≡ true → value_after 0 ds ≡ n → n < 2 ^ 64 → begins is_ascii_digit rest ≡ false
    → number (ds ++ rest) ≡ Some (n, rest)
unfolding number
number-digits ds rest n a v fits b = rw (digits-append ds rest a b, after_digits-append ds rest a b, v, lt-ltb n (2 ^ 64) fits) refl

number-decimal : (n : ℕ) (rest : List ℕ) → n < 2 ^ 64 → begins is_ascii_digit rest ≡ false → number (decimal n ++ rest) ≡ Some (n, rest)
number-decimal n rest h b = number-digits (decimal n) rest n (decimal-digits n h) (decimal-value n h) h b

-- a digit is no separator, and none of these letters
pub digit-separator : (b : ℕ) → is_ascii_digit b ≡ true → is_separator b ≡ false
digit-separator b h = grind (arith, nat_tests)

pub digit-other : (b c : ℕ) → is_ascii_digit b ≡ true → 57 < c → (b == c) ≡ false
digit-other b c h k = grind (arith, nat_tests)

begins-append : (n : ℕ) (rest : List ℕ) → n < 2 ^ 64 → begins is_ascii_digit (decimal n ++ rest) ≡ true
begins-append n rest h = let d = decimal-first n h in rw d.shape d.digit

optional-append : (n : ℕ) (rest : List ℕ) → n < 2 ^ 64 → after_optional is_separator (decimal n ++ rest) ≡ decimal n ++ rest
optional-append n rest h = let d = decimal-first n h in rw (d.shape, digit-separator d.first d.digit) refl

letter-append : (n : ℕ) (rest : List ℕ) → n < 2 ^ 64 → after_optional (λ b. b == 118) (decimal n ++ rest) ≡ decimal n ++ rest
letter-append n rest h = let d = decimal-first n h in rw (d.shape, digit-other d.first 118 d.digit (omega arith)) refl

suffix-decimal : (n : ℕ) (rest : List ℕ) → n < 2 ^ 64 → begins is_ascii_digit rest ≡ false → suffix_number (decimal n ++ rest) ≡ Some (n, rest)
suffix-decimal n rest h b = rw (optional-append n rest h) (number-decimal n rest h b)

-- ---- what follows the release

abbrev after_pre : Option ℕ → Option ℕ → List Segment → List ℕ
after_pre q d l = numbered_text (codes ".post") q ++ (numbered_text (codes ".dev") d ++ local_text l)

abbrev after_release : Option Pre → Option ℕ → Option ℕ → List Segment → List ℕ
after_release p q d l = pre_text p ++ after_pre q d l

local-begin : (l : List Segment) → begins is_ascii_digit (local_text l) ≡ false
local-begin [] = refl
local-begin (s ∷ ss) = refl

dev-begin : (d : Option ℕ) (l : List Segment) → begins is_ascii_digit (numbered_text (codes ".dev") d ++ local_text l) ≡ false
dev-begin None l = local-begin l
dev-begin (Some n) l = refl

after_pre-begin : (q d : Option ℕ) (l : List Segment) → begins is_ascii_digit (after_pre q d l) ≡ false
after_pre-begin None d l = dev-begin d l
after_pre-begin (Some n) d l = refl

dev-read : (d : Option ℕ) (l : List Segment) → ((n : ℕ) → d ≡ Some n → n < 2 ^ 64) → dev (numbered_text (codes ".dev") d ++ local_text l) ≡ Some (d, local_text l)
unfolding dev after_word
dev-read None [] h = refl
dev-read None (s ∷ ss) h = refl
dev-read (Some n) l h = rw (suffix-decimal n (local_text l) (h n refl) (local-begin l)) refl

post-read : (q d : Option ℕ) (l : List Segment) → ((n : ℕ) → q ≡ Some n → n < 2 ^ 64) → post (after_pre q d l) ≡ Some (q, numbered_text (codes ".dev") d ++ local_text l)
unfolding post after_word marked_digits
post-read None None [] h = refl
post-read None None (s ∷ ss) h = refl
post-read None (Some m) l h = refl
post-read (Some n) d l h = rw (suffix-decimal n (numbered_text (codes ".dev") d ++ local_text l) (h n refl) (dev-begin d l)) refl

-- the kind is read from its letters, where a digit follows
kind-read : (k : PreKind) (text : List ℕ) → begins is_ascii_digit text ≡ true → any_kind (after_optional is_separator (kind_text k ++ text)) ≡ Some (k, text)
unfolding after_word
kind-read A [] h = absurd (true≢false (sym h))
kind-read A (b ∷ text) h = rw (digit-other b 108 h (omega arith)) refl
kind-read B [] h = absurd (true≢false (sym h))
kind-read B (b ∷ text) h = rw (digit-other b 101 h (omega arith)) refl
kind-read Rc text h = refl

pre-read : (p : Option Pre) (q d : Option ℕ) (l : List Segment) → ((x : Pre) → p ≡ Some x → x.number < 2 ^ 64) → pre (after_release p q d l) ≡ Some (p, after_pre q d l)
unfolding pre after_word
pre-read None None None [] h = refl
pre-read None None None (s ∷ ss) h = refl
pre-read None None (Some m) l h = refl
pre-read None (Some n) d l h = refl
pre-read (Some x) q d l h =
    let fits = h x refl in
    rw (
      append_assoc (kind_text x.kind) (decimal x.number) (after_pre q d l),
      kind-read x.kind (decimal x.number ++ after_pre q d l) (begins-append x.number (after_pre q d l) fits),
      suffix-decimal x.number (after_pre q d l) fits (after_pre-begin q d l),
    ) refl

-- no number, point or mark of the epoch stands in front of what follows the release
pub record Ends (text : List ℕ) : Type 0 where
  pub digit : begins is_ascii_digit text ≡ false
  pub point : marked_digits (codes ".") text ≡ None
  pub mark : after_word (codes "!") text ≡ None

dev-ends : (d : Option ℕ) (l : List Segment) → Ends (numbered_text (codes ".dev") d ++ local_text l)
unfolding marked_digits after_word
dev-ends None [] = record { digit = refl; point = refl; mark = refl }
dev-ends None (s ∷ ss) = record { digit = refl; point = refl; mark = refl }
dev-ends (Some n) l = record { digit = refl; point = refl; mark = refl }

after_pre-ends : (q d : Option ℕ) (l : List Segment) → Ends (after_pre q d l)
unfolding marked_digits after_word
after_pre-ends None d l = dev-ends d l
after_pre-ends (Some n) d l = record { digit = refl; point = refl; mark = refl }

kind-ends : (k : PreKind) (text : List ℕ) → Ends (kind_text k ++ text)
unfolding marked_digits after_word
kind-ends A text = record { digit = refl; point = refl; mark = refl }
kind-ends B text = record { digit = refl; point = refl; mark = refl }
kind-ends Rc text = record { digit = refl; point = refl; mark = refl }

after_release-ends : (p : Option Pre) (q d : Option ℕ) (l : List Segment) → Ends (after_release p q d l)
after_release-ends None q d l = after_pre-ends q d l
after_release-ends (Some x) q d l = rw (append_assoc (kind_text x.kind) (decimal x.number) (after_pre q d l)) (kind-ends x.kind _)

-- ---- the release

marked-decimal : (n : ℕ) (rest : List ℕ) → n < 2 ^ 64 → marked_digits (codes ".") (codes "." ++ (decimal n ++ rest)) ≡ Some (decimal n ++ rest)
unfolding marked_digits after_word
marked-decimal n rest h = rw (begins-append n rest h) refl

points-begin : (ns text : List ℕ) → Ends text → begins is_ascii_digit (points_text ns ++ text) ≡ false
points-begin [] text e = e.digit
points-begin (n ∷ ns) text e = refl

points-mark : (ns text : List ℕ) → Ends text → after_word (codes "!") (points_text ns ++ text) ≡ None
unfolding after_word
points-mark [] text e = e.mark
points-mark (n ∷ ns) text e = refl

points-read : (ns text : List ℕ) (most : ℕ) → Ends text → All IsNumber64 ns → length ns ≤ most → points most (points_text ns ++ text) ≡ Some (ns, text)
unfolding points
points-read [] text zero e h k = refl
points-read [] text (suc most) e h k = rw e.point refl
points-read (n ∷ ns) text zero e h k = absurd (omega arith)
points-read (n ∷ ns) text (suc most) e h k =
    let fits = All-first IsNumber64 n ns h in
    let group : (decimal n ++ points_text ns) ++ text ≡ decimal n ++ (points_text ns ++ text) = append_assoc (decimal n) (points_text ns) text in
    rw (
      group,
      marked-decimal n (points_text ns ++ text) fits,
      number-decimal n (points_text ns ++ text) fits (points-begin ns text e),
      points-read ns text most e (All-rest IsNumber64 n ns h) (omega arith),
    ) refl

points-length : (ns : List ℕ) → length ns ≤ length (points_text ns)
points-length [] = omega arith
points-length (n ∷ ns) = let more = points-length ns in let whole = length-append (decimal n) (points_text ns) in omega arith

release-read : (ns text : List ℕ) → Ends text → All IsNumber64 ns → 0 < length ns → release (release_text ns ++ text) ≡ Some (ns, text)
unfolding release required_number
release-read [] text e h k = absurd (omega arith)
release-read (n ∷ ns) text e h k =
    let fits = All-first IsNumber64 n ns h in
    let group : (decimal n ++ points_text ns) ++ text ≡ decimal n ++ (points_text ns ++ text) = append_assoc (decimal n) (points_text ns) text in
    let rest = points_text ns ++ text in
    let room : length ns ≤ length (decimal n ++ rest) =
    let a = points-length ns in let b = length-append (decimal n) rest in let c = length-append (points_text ns) text in omega arith in
    rw (
      group,
      begins-append n rest fits,
      number-decimal n rest fits (points-begin ns text e),
      points-read ns text (length (decimal n ++ rest)) e (All-rest IsNumber64 n ns h) room,
    ) refl

-- ---- the epoch

epoch-read : (n : ℕ) (ns text : List ℕ) → n < 2 ^ 64 → Ends text → All IsNumber64 ns → 0 < length ns → epoch (epoch_text n ++ (release_text ns ++ text)) ≡ Some (n, release_text ns ++ text)
unfolding epoch after_word
epoch-read n [] text h e a k = absurd (omega arith)
epoch-read n (m ∷ ns) text h e a k = elim (cases_Bool (n == 0)) [
  | inl none ↦
      let fits = All-first IsNumber64 m ns a in
      let rest = points_text ns ++ text in
      let group : (decimal m ++ points_text ns) ++ text ≡ decimal m ++ rest = append_assoc (decimal m) (points_text ns) text in
      let absent : n ≡ 0 = eqb-true n 0 none in
      rw (none, group, begins-append m rest fits, number-decimal m rest fits (points-begin ns text e), points-mark ns text e, absent) refl
  | inr some ↦
      let rest = release_text (m ∷ ns) ++ text in
      let group : (decimal n ++ codes "!") ++ rest ≡ decimal n ++ (codes "!" ++ rest) = append_assoc (decimal n) (codes "!") rest in
      rw (some, group, begins-append n (codes "!" ++ rest) h, number-decimal n (codes "!" ++ rest) h refl) refl
]

letter-read : (n : ℕ) (ns text : List ℕ) → n < 2 ^ 64 → All IsNumber64 ns → 0 < length ns
    → after_optional (λ b. b == 118) (epoch_text n ++ (release_text ns ++ text)) ≡ epoch_text n ++ (release_text ns ++ text)
letter-read n [] text h a k = absurd (omega arith)
letter-read n (m ∷ ns) text h a k = elim (cases_Bool (n == 0)) [
  | inl none ↦
      let group : (decimal m ++ points_text ns) ++ text ≡ decimal m ++ (points_text ns ++ text) = append_assoc (decimal m) (points_text ns) text in
      rw (none, group) (letter-append m (points_text ns ++ text) (All-first IsNumber64 m ns a))
  | inr some ↦
      let rest = release_text (m ∷ ns) ++ text in
      let group : (decimal n ++ codes "!") ++ rest ≡ decimal n ++ (codes "!" ++ rest) = append_assoc (decimal n) (codes "!") rest in
      rw (some, group) (letter-append n (codes "!" ++ rest) h)
]

-- ---- the local part

digit-word : (b : ℕ) → is_ascii_digit b ≡ true → is_word_byte b ≡ true
digit-word b h = or_left (is_ascii_digit b) (is_ascii_lowercase b) h

pub digits-word : (ds : List ℕ) → list_all is_ascii_digit ds ≡ true → list_all is_word_byte ds ≡ true
digits-word [] h = refl
digits-word (d ∷ ds) h =
    let (first, others) = and_parts (is_ascii_digit d) (list_all is_ascii_digit ds) h in
    and_from (is_word_byte d) (list_all is_word_byte ds) (digit-word d first) (digits-word ds others)

word-separator : (b : ℕ) → is_word_byte b ≡ true → is_separator b ≡ false
word-separator b h = grind (arith, nat_tests)

pub word-separators : (text : List ℕ) → list_all is_word_byte text ≡ true → All (λ x. is_separator x ≡ false) text
word-separators [] h k d lt = absurd (omega arith)
word-separators (b ∷ text) h zero d lt = word-separator b (and_parts (is_word_byte b) (list_all is_word_byte text) h).0
word-separators (b ∷ text) h (suc k) d lt = word-separators text (and_parts (is_word_byte b) (list_all is_word_byte text) h).1 k d (omega arith)

segment-words : (s : Segment) → IsSegment s → list_all is_word_byte (segment_text s) ≡ true
segment-words (Number n) h = digits-word (decimal n) (decimal-digits n h)
segment-words (Word text) h = (and_parts (list_all is_word_byte text) (list_any is_ascii_lowercase text) h).0

letter-digit : (b : ℕ) → is_ascii_lowercase b ≡ true → is_ascii_digit b ≡ false
letter-digit b h = grind (arith, nat_tests)

pub any-letter : (text : List ℕ) → list_any is_ascii_lowercase text ≡ true → (0 < length text) × (list_all is_ascii_digit text ≡ false)
any-letter [] h = absurd (true≢false (sym h))
any-letter (b ∷ text) h = elim (or_cases (is_ascii_lowercase b) (list_any is_ascii_lowercase text) h) [
  | inl first ↦ (omega arith, rw (letter-digit b first) refl)
  | inr later ↦ (omega arith, and_right (is_ascii_digit b) (list_all is_ascii_digit text) (any-letter text later).1)
]

pub nonempty-test : (text : List ℕ) → 0 < length text → (length text == 0) ≡ false
nonempty-test text h = ne_eqb (length text) 0 (λ e. omega arith)

segment-read : (s : Segment) → IsSegment s → segment (segment_text s) ≡ Some s
unfolding segment
segment-read (Number n) h =
    let alone : decimal n ++ [] ≡ decimal n = append-nil (decimal n) in
    let read : number (decimal n) ≡ Some (n, []) = rw alone at (number-decimal n [] h refl) in
    rw (nonempty-test (decimal n) (decimal_nonempty n h), digits-word (decimal n) (decimal-digits n h), decimal-digits n h, read) refl
segment-read (Word text) h =
    let (words, letter) = and_parts (list_all is_word_byte text) (list_any is_ascii_lowercase text) h in
    let (filled, other) = any-letter text letter in
    rw (nonempty-test text filled, words, other) refl

segments-read : (s : Segment) (ss : List Segment) → IsSegment s → All IsSegment ss → segments (slice_split is_separator (segment_text s ++ segments_text ss)) ≡ Some (s ∷ ss)
unfolding segments
segments-read s [] h a =
    rw (append-nil (segment_text s), slice_split_none is_separator (segment_text s) (word-separators (segment_text s) (segment-words s h)), segment-read s h) refl
segments-read s (t ∷ ss) h a =
    rw (
      slice_split_at is_separator (segment_text s) 46 (segment_text t ++ segments_text ss) (word-separators (segment_text s) (segment-words s h)) refl,
      segment-read s h,
      segments-read t ss (All-first IsSegment t ss a) (All-rest IsSegment t ss a),
    ) refl

local-read : (l : List Segment) → All IsSegment l → local (local_text l) ≡ Some l
unfolding local
local-read [] a = refl
local-read (s ∷ ss) a = segments-read s ss (All-first IsSegment s ss a) (All-rest IsSegment s ss a)

-- ---- the whole text

some-fits : (o : Option ℕ) → IfSome o IsNumber64 → (n : ℕ) → o ≡ Some n → n < 2 ^ 64
some-fits None h n e = cc e
some-fits (Some m) h n e = let same : m ≡ n = cc e in rw (← same) h

pre-fits : (o : Option Pre) → IfSome o (λ p. p.number < 2 ^ 64) → (p : Pre) → o ≡ Some p → p.number < 2 ^ 64
pre-fits None h p e = cc e
pre-fits (Some q) h p e = let same : q ≡ p = cc e in rw (← same) h

pub fields-read : (f : Fields) → IsVersion f → fields_of (version_text f) ≡ Some f
unfolding fields_of version_text
fields-read f v =
    let rest = after_release f.pre f.post f.dev f.local in
    let ends = after_release-ends f.pre f.post f.dev f.local in
    rw (
      letter-read f.epoch f.release rest v.epoch_fits v.release_fits v.nonempty,
      epoch-read f.epoch f.release rest v.epoch_fits ends v.release_fits v.nonempty,
      release-read f.release rest ends v.release_fits v.nonempty,
      pre-read f.pre f.post f.dev f.local (pre-fits f.pre v.pre_fits),
      post-read f.post f.dev f.local (some-fits f.post v.post_fits),
      dev-read f.dev f.local (some-fits f.dev v.dev_fits),
      local-read f.local v.segments,
    ) refl

-- ---- the bytes of a normal text

text_byte-plain : (b : ℕ) → is_text_byte b ≡ true → (is_white b ≡ false) × (to_ascii_lowercase b ≡ b)
text_byte-plain b h = (grind (arith, nat_tests), grind (arith, nat_tests))

text-after_white : (text : List ℕ) → list_all is_text_byte text ≡ true → after_white text ≡ text
unfolding after_white
text-after_white [] h = refl
text-after_white (b ∷ text) h = rw (text_byte-plain b (and_parts (is_text_byte b) (list_all is_text_byte text) h).0).0 refl

unless_white-kept : (b : ℕ) (text : List ℕ) → is_white b ≡ false → unless_last is_white b text ≡ b ∷ text
unless_white-kept b [] h = rw h refl
unless_white-kept b (c ∷ text) h = refl

text-before_white : (text : List ℕ) → list_all is_text_byte text ≡ true → before_white text ≡ text
unfolding before_white
text-before_white [] h = refl
text-before_white (b ∷ text) h =
    let (first, others) = and_parts (is_text_byte b) (list_all is_text_byte text) h in
    rw (text-before_white text others) (unless_white-kept b text (text_byte-plain b first).0)

text-lowered : (text : List ℕ) → list_all is_text_byte text ≡ true → lowercase_text text ≡ text
text-lowered [] h = refl
text-lowered (b ∷ text) h =
    let (first, others) = and_parts (is_text_byte b) (list_all is_text_byte text) h in
    rw ((text_byte-plain b first).1, text-lowered text others) refl

words-text : (text : List ℕ) → list_all is_word_byte text ≡ true → list_all is_text_byte text ≡ true
words-text [] h = refl
words-text (b ∷ text) h =
    let (first, others) = and_parts (is_word_byte b) (list_all is_word_byte text) h in
    and_from (is_text_byte b) (list_all is_text_byte text) (or_left (is_word_byte b) _ first) (words-text text others)

all-append : (xs ys : List ℕ) → list_all is_text_byte xs ≡ true → list_all is_text_byte ys ≡ true → list_all is_text_byte (xs ++ ys) ≡ true
all-append [] ys h k = k
all-append (x ∷ xs) ys h k =
    let (first, others) = and_parts (is_text_byte x) (list_all is_text_byte xs) h in
    and_from (is_text_byte x) (list_all is_text_byte (xs ++ ys)) first (all-append xs ys others k)

decimal-text : (n : ℕ) → n < 2 ^ 64 → list_all is_text_byte (decimal n) ≡ true
decimal-text n h = words-text (decimal n) (digits-word (decimal n) (decimal-digits n h))

epoch-text : (n : ℕ) → n < 2 ^ 64 → list_all is_text_byte (epoch_text n) ≡ true
epoch-text n h = elim (cases_Bool (n == 0)) [
  | inl none ↦ rw none refl
  | inr some ↦ rw some (all-append (decimal n) (codes "!") (decimal-text n h) refl)
]

points-text : (ns : List ℕ) → All IsNumber64 ns → list_all is_text_byte (points_text ns) ≡ true
points-text [] a = refl
points-text (n ∷ ns) a = all-append (decimal n) (points_text ns) (decimal-text n (All-first IsNumber64 n ns a)) (points-text ns (All-rest IsNumber64 n ns a))

release-text : (ns : List ℕ) → All IsNumber64 ns → list_all is_text_byte (release_text ns) ≡ true
release-text [] a = refl
release-text (n ∷ ns) a = all-append (decimal n) (points_text ns) (decimal-text n (All-first IsNumber64 n ns a)) (points-text ns (All-rest IsNumber64 n ns a))

kind-all : (k : PreKind) → list_all is_text_byte (kind_text k) ≡ true
kind-all A = refl
kind-all B = refl
kind-all Rc = refl

pre-text : (p : Option Pre) → ((x : Pre) → p ≡ Some x → x.number < 2 ^ 64) → list_all is_text_byte (pre_text p) ≡ true
pre-text None h = refl
pre-text (Some p) h = all-append (kind_text p.kind) (decimal p.number) (kind-all p.kind) (decimal-text p.number (h p refl))

numbered-text : (word : List ℕ) (o : Option ℕ) → list_all is_text_byte word ≡ true → ((n : ℕ) → o ≡ Some n → n < 2 ^ 64) → list_all is_text_byte (numbered_text word o) ≡ true
numbered-text word None w h = refl
numbered-text word (Some n) w h = all-append word (decimal n) w (decimal-text n (h n refl))

segments-text : (ss : List Segment) → All IsSegment ss → list_all is_text_byte (segments_text ss) ≡ true
segments-text [] a = refl
segments-text (s ∷ ss) a =
    all-append (segment_text s) (segments_text ss) (words-text (segment_text s) (segment-words s (All-first IsSegment s ss a))) (segments-text ss (All-rest IsSegment s ss a))

local-text : (ss : List Segment) → All IsSegment ss → list_all is_text_byte (local_text ss) ≡ true
local-text [] a = refl
local-text (s ∷ ss) a = segments-text (s ∷ ss) a

pub version-text : (f : Fields) → IsVersion f → list_all is_text_byte (version_text f) ≡ true
unfolding version_text
version-text f v =
    all-append (epoch_text f.epoch) _ (epoch-text f.epoch v.epoch_fits)
    (all-append (release_text f.release) _ (release-text f.release v.release_fits)
    (all-append (pre_text f.pre) _ (pre-text f.pre (pre-fits f.pre v.pre_fits))
    (all-append (numbered_text (codes ".post") f.post) _ (numbered-text (codes ".post") f.post refl (some-fits f.post v.post_fits))
    (all-append (numbered_text (codes ".dev") f.dev) _ (numbered-text (codes ".dev") f.dev refl (some-fits f.dev v.dev_fits))
    (local-text f.local v.segments)))))

release-length : (ns text : List ℕ) → All IsNumber64 ns → 0 < length ns → 0 < length (release_text ns ++ text)
release-length [] text a k = absurd (omega arith)
release-length (n ∷ ns) text a k =
    let group : (decimal n ++ points_text ns) ++ text ≡ decimal n ++ (points_text ns ++ text) = append_assoc (decimal n) (points_text ns) text in
    let some = decimal_nonempty n (All-first IsNumber64 n ns a) in
    let whole = length-append (decimal n) (points_text ns ++ text) in
    rw group (omega arith)

pub version-filled : (f : Fields) → IsVersion f → 0 < length (version_text f)
unfolding version_text
version-filled f v =
    let some = release-length f.release (after_release f.pre f.post f.dev f.local) v.release_fits v.nonempty in
    let whole = length-append (epoch_text f.epoch) (release_text f.release ++ after_release f.pre f.post f.dev f.local) in
    omega arith

-- the normal text of a version reads as the version
pub version-read : (f : Fields) → IsVersion f → version_of (version_text f) ≡ Some f
unfolding version_of
version-read f v =
    let plain = version-text f v in
    rw (text-after_white (version_text f) plain, text-before_white (version_text f) plain, text-lowered (version_text f) plain) (fields-read f v)
