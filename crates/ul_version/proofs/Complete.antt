-- A text that the grammar spells has a reading: no part that takes all it can leaves the rest unread.
use Rattle.std.proofs.Common.{◌≡◌, ℕ, zero, suc, ◌<◌, ◌≤◌, List, [], ◌∷◌, ◌++◌, length, refl, sym, ap, ◌∙◌, arith, Bool, true, false, true≢false, inl, inr, ◌⊎◌, Option, Some, None}
use Rattle.std.specs.Prelude.{IsSome, ◌||◌, ◌==◌, codes}
use Rattle.std.specs.List.{list_all, slice_split}
use Rattle.std.proofs.lemmas.List.{append_assoc, append-nil, length-append}
use Rattle.std.proofs.lemmas.List.Splits.{slice_split_none, slice_split_at}
use Rattle.std.proofs.lemmas.Bool.{cases_Bool, eqb-true, and_parts, or_left, or_right, false_from_ne_true}
use Rattle.std.proofs.lemmas.Bool.Decides.{nat_tests}
use Rattle.std.specs.Char.{is_ascii_digit, is_ascii_lowercase}
use Rattle.ul_version.specs.Fields.{Fields, is_word_byte}
use Rattle.ul_version.specs.Grammar.{IsNum, IsOptionalNum, IsOptionalSeparator, IsSuffix, IsEpoch, ArePoints, IsRelease, IsPre, IsPost, IsDev, IsSpelledSegment, AreSegments, IsLocal, IsSpelled}
use Rattle.ul_version.specs.Reading.{Cut, number, value_after, required_number, begins, epoch, marked_digits, after_word, points, release, pre, any_kind, kind_words, suffix_number, after_optional, is_separator, post, post_words, after_any, dev, segment, segments, local, fields_of}
use Rattle.ul_version.specs.declared.fields.Pre.{Pre}
use Rattle.ul_version.specs.declared.fields.PreKind.{PreKind}
use Rattle.ul_version.specs.declared.fields.PreKind.TheVariants.{A, B, Rc}
use Rattle.ul_version.specs.declared.fields.Segment.{Segment}
use Rattle.ul_version.specs.declared.fields.Segment.TheVariants.{Number, Word}
use Rattle.ul_version.proofs.RoundTrip.{Ends, first_digit, number-digits, digit-separator, digit-other, word-separators, digits-word, nonempty-test, any-letter}
use Rattle.ul_version.proofs.Words.{IsOneOf, one_of}

-- a part that was read, what holds of the text after it, and how long that is at most
pub record Reads {X : Type 0} (T : List ℕ → Type 0) (cut : Cut X) (most : ℕ) : Type 0 where
  pub value : X
  pub rest : List ℕ
  pub is : cut ≡ Some (value, rest)
  pub holds : T rest
  pub shorter : length rest ≤ most

-- ---- bytes in front

-- whether a text is empty or begins with such a byte
abbrev pub opens : (ℕ → Bool) → List ℕ → Bool
opens test [] = true
opens test (b ∷ rest) = test b

-- what may follow a word of a pre or post part
abbrev pub is_next : ℕ → Bool
is_next b = is_separator b || (is_ascii_digit b || (b == 112 || (b == 114 || (b == 100 || b == 43))))

pub opens-other : (text : List ℕ) (c : ℕ) → opens is_next text ≡ true → is_next c ≡ false → begins (λ b. b == c) text ≡ false
opens-other [] c h k = refl
opens-other (b ∷ rest) c h k = false_from_ne_true (b == c) (λ e. true≢false (sym h ∙ rw (eqb-true b c e) k))

separator-next : (b : ℕ) (rest : Bool) → is_separator b ≡ true → (is_separator b || rest) ≡ true
separator-next b rest h = or_left (is_separator b) rest h

digit-next : (b : ℕ) → is_ascii_digit b ≡ true → is_next b ≡ true
digit-next b h = or_right (is_separator b) _ (or_left (is_ascii_digit b) _ h)

-- a text with a letter in front, after a separator or none
pub record Lettered (text : List ℕ) : Type 0 where
  pub before : List ℕ
  pub first : ℕ
  pub others : List ℕ
  pub is_before : IsOptionalSeparator before
  pub letter : is_ascii_lowercase first ≡ true
  pub shape : text ≡ before ++ (first ∷ others)

letter-separator : (b : ℕ) → is_ascii_lowercase b ≡ true → is_separator b ≡ false
letter-separator b h = grind (arith, nat_tests)

letter-digit : (b : ℕ) → is_ascii_lowercase b ≡ true → is_ascii_digit b ≡ false
letter-digit b h = grind (arith, nat_tests)

letter-mark : (b c : ℕ) → is_ascii_lowercase b ≡ true → c < 97 → (b == c) ≡ false
letter-mark b c h k = grind (arith, nat_tests)

separator-digit : (b : ℕ) → is_separator b ≡ true → is_ascii_digit b ≡ false
separator-digit b h = grind (arith, nat_tests)

separator-mark : (b : ℕ) → is_separator b ≡ true → (b == 33) ≡ false
separator-mark b h = grind (arith, nat_tests)

-- a separator in front is dropped
optional-letter : (before : List ℕ) (b : ℕ) (rest : List ℕ) → IsOptionalSeparator before → is_ascii_lowercase b ≡ true
    → after_optional is_separator (before ++ (b ∷ rest)) ≡ b ∷ rest
optional-letter before b rest (inl none) h = rw (none, letter-separator b h) refl
optional-letter before b rest (inr (c, one, sep)) h = rw (one, sep) refl

pub marked-letter : (mark : ℕ) (before : List ℕ) (b : ℕ) (rest : List ℕ) → mark < 97 → IsOptionalSeparator before → is_ascii_lowercase b ≡ true
    → marked_digits (mark ∷ []) (before ++ (b ∷ rest)) ≡ None
unfolding marked_digits after_word
marked-letter mark before b rest low (inl none) h = rw (none, letter-mark b mark h low) refl
marked-letter mark before b rest low (inr (c, one, sep)) h = elim (cases_Bool (c == mark)) [
  | inl same ↦ rw (one, same, letter-digit b h) refl
  | inr other ↦ rw (one, other) refl
]

Lettered-ends : (text : List ℕ) → Lettered text → Ends text
unfolding after_word
Lettered-ends text l = rw l.shape (record { digit = digit l.before l.is_before; point = marked-letter 46 l.before l.first l.others (omega arith) l.is_before l.letter; mark = mark l.before l.is_before })
  where
    digit : (before : List ℕ) → IsOptionalSeparator before → begins is_ascii_digit (before ++ (l.first ∷ l.others)) ≡ false
    digit before (inl none) = rw none (letter-digit l.first l.letter)
    digit before (inr (c, one, sep)) = rw one (separator-digit c sep)

    mark : (before : List ℕ) → IsOptionalSeparator before → after_word (codes "!") (before ++ (l.first ∷ l.others)) ≡ None
    mark before (inl none) = rw (none, letter-mark l.first 33 l.letter (omega arith)) refl
    mark before (inr (c, one, sep)) = rw (one, separator-mark c sep) refl

-- a part that begins with a word
suffix-shape : (words : List (List ℕ)) (part rest : List ℕ) (n : ℕ) (h : IsSuffix words part n) → part ++ rest ≡ h.before ++ (h.word ++ (h.between ++ (h.digits ++ rest)))
suffix-shape words part rest n h = ap (λ (l : List ℕ). l ++ rest) h.spelling ∙ simp append_assoc

-- ---- the number after a word

pub optional-number : (digits rest : List ℕ) (n : ℕ) → IsOptionalNum digits n → begins is_ascii_digit rest ≡ false → number (digits ++ rest) ≡ Some (n, rest)
unfolding value_after
optional-number digits rest n (inl (none, absent)) b = rw (none, absent) (number-digits [] rest 0 refl refl (omega arith) b)
optional-number digits rest n (inr num) b = number-digits digits rest n num.digits num.value num.fits b

-- what holds of the text after a part: no digit stands in front, and a separator in front may be dropped
record Follows (T : List ℕ → Type 0) : Type 0 where
  stops : (rest : List ℕ) → T rest → begins is_ascii_digit rest ≡ false
  trims : (rest : List ℕ) → T rest → Reads T (number (after_optional is_separator rest)) (length rest)

suffix-reads : (T : List ℕ → Type 0) → Follows T → (between digits rest : List ℕ) (n : ℕ) → IsOptionalSeparator between → IsOptionalNum digits n → T rest
    → Reads T (suffix_number (between ++ (digits ++ rest))) (length rest)
suffix-reads T f between digits rest n (inr (c, one, sep)) d t =
    record { value = n; rest = rest; is = rw (one, sep) (optional-number digits rest n d (f.stops rest t)); holds = t; shorter = omega arith }
suffix-reads T f between digits rest n (inl none) (inl (empty, absent)) t =
    let r = f.trims rest t in record { value = r.value; rest = r.rest; is = rw (none, empty) r.is; holds = r.holds; shorter = r.shorter }
suffix-reads T f between digits rest n (inl none) (inr num) t =
    let d = first_digit digits num.nonempty num.digits in
    let kept : after_optional is_separator (digits ++ rest) ≡ digits ++ rest = rw (d.shape, digit-separator d.first d.digit) refl in
    record { value = n; rest = rest; is = rw (none, kept) (number-digits digits rest n num.digits num.value num.fits (f.stops rest t)); holds = t; shorter = omega arith }

-- what follows a word opens with one of the bytes that may follow
pub word-opens : (between digits rest : List ℕ) (n : ℕ) → IsOptionalSeparator between → IsOptionalNum digits n → opens is_next rest ≡ true
    → opens is_next (between ++ (digits ++ rest)) ≡ true
word-opens between digits rest n (inr (c, one, sep)) d o = rw one (separator-next c _ sep)
word-opens between digits rest n (inl none) (inl (empty, absent)) o = rw (none, empty) o
word-opens between digits rest n (inl none) (inr num) o =
    let d = first_digit digits num.nonempty num.digits in rw (none, d.shape) (digit-next d.first d.digit)

-- ---- the local part

piece-words : (piece : List ℕ) (s : Segment) → IsSpelledSegment piece s → list_all is_word_byte piece ≡ true
piece-words piece (Number n) h = digits-word piece h.digits
piece-words piece (Word word) h = rw h.0 (and_parts (list_all is_word_byte word) _ h.1).0

piece-read : (piece : List ℕ) (s : Segment) → IsSpelledSegment piece s → segment piece ≡ Some s
unfolding segment
piece-read piece (Number n) h =
    let alone : piece ++ [] ≡ piece = append-nil piece in
    let read : number piece ≡ Some (n, []) = rw alone at (number-digits piece [] n h.digits h.value h.fits refl) in
    rw (nonempty-test piece h.nonempty, digits-word piece h.digits, h.digits, read) refl
piece-read piece (Word word) (same, is) =
    let (words, letter) = and_parts (list_all is_word_byte word) _ is in
    let (filled, other) = any-letter word letter in
    rw same (rw (nonempty-test word filled, words, other) refl)

segments-read : (text : List ℕ) (ss : List Segment) → AreSegments text ss → segments (slice_split is_separator text) ≡ Some ss
unfolding segments
segments-read text [] h = absurd h
segments-read text (s ∷ []) h = rw (slice_split_none is_separator text (word-separators text (piece-words text s h)), piece-read text s h) refl
segments-read text (s ∷ t ∷ ss) (piece, rest, b, first, sep, more, whole) =
    rw (whole, slice_split_at is_separator piece b rest (word-separators piece (piece-words piece s first)) sep, piece-read piece s first, segments-read rest (t ∷ ss) more) refl

pub local-read : (text : List ℕ) (ss : List Segment) → IsLocal text ss → local text ≡ Some ss
unfolding local
local-read text [] h = rw h refl
local-read text (s ∷ ss) (rest, more, whole) = rw whole (segments-read rest (s ∷ ss) more)

-- a local part is empty or begins with its mark
pub record Last (text : List ℕ) : Type 0 where
  pub segments : List Segment
  pub is_local : IsLocal text segments

local-cases : (text : List ℕ) (ss : List Segment) → IsLocal text ss → (text ≡ []) ⊎ ((rest : List ℕ) × (text ≡ 43 ∷ rest))
local-cases text [] h = inl h
local-cases text (s ∷ ss) (rest, more, whole) = inr (rest, whole)

last-cases : (text : List ℕ) → Last text → (text ≡ []) ⊎ ((rest : List ℕ) × (text ≡ 43 ∷ rest))
last-cases text t = local-cases text t.segments t.is_local

Last-ends : (text : List ℕ) → Last text → Ends text
unfolding marked_digits after_word
Last-ends text t = elim (last-cases text t) [
  | inl none ↦ rw none (record { digit = refl; point = refl; mark = refl })
  | inr (rest, plus) ↦ rw plus (record { digit = refl; point = refl; mark = refl })
]

Last-opens : (text : List ℕ) → Last text → opens is_next text ≡ true
Last-opens text t = elim (last-cases text t) [ inl none ↦ rw none refl | inr (rest, plus) ↦ rw plus refl ]

Last-optional : (text : List ℕ) → Last text → after_optional is_separator text ≡ text
Last-optional text t = elim (last-cases text t) [ inl none ↦ rw none refl | inr (rest, plus) ↦ rw plus refl ]

Last-word : (text word : List ℕ) (w : ℕ) → Last text → (43 == w) ≡ false → after_word (w ∷ word) text ≡ None
unfolding after_word
Last-word text word w t h = elim (last-cases text t) [ inl none ↦ rw none refl | inr (rest, plus) ↦ rw (plus, h) refl ]

none-number : (text : List ℕ) → begins is_ascii_digit text ≡ false → number text ≡ Some (0, text)
unfolding value_after
none-number text b = number-digits [] text 0 refl refl (omega arith) b

Last-follows : Follows Last
Last-follows = record {
  stops = λ rest t. (Last-ends rest t).digit;
  trims = λ rest t. record { value = 0; rest = rest; is = rw (Last-optional rest t) (none-number rest (Last-ends rest t).digit); holds = t; shorter = omega arith };
}

-- ---- the dev part and what follows it

pub record FromDev (text : List ℕ) : Type 0 where
  pub value : Option ℕ
  pub part : List ℕ
  pub rest : List ℕ
  pub is_part : IsDev part value
  pub last : Last rest
  pub whole : text ≡ part ++ rest

-- each of the words begins with such a byte
word-first : (test : ℕ → Bool) (words : List (List ℕ)) (word : List ℕ) → list_all (begins test) words ≡ true → IsOneOf words word → begins test word ≡ true
word-first test [] word h o = absurd o
word-first test (w ∷ words) word h (inl e) = rw e (and_parts (begins test w) (list_all (begins test) words) h).0
word-first test (w ∷ words) word h (inr o) = word-first test words word (and_parts (begins test w) (list_all (begins test) words) h).1 o

begins-shape : (test : ℕ → Bool) (text : List ℕ) → begins test text ≡ true → (b : ℕ) × (rest : List ℕ) × (text ≡ b ∷ rest) × (test b ≡ true)
begins-shape test [] h = absurd (true≢false (sym h))
begins-shape test (b ∷ rest) h = (b, rest, refl, h)

pub suffix-lettered : (words : List (List ℕ)) (part rest : List ℕ) (n : ℕ) → list_all (begins is_ascii_lowercase) words ≡ true → IsSuffix words part n → Lettered (part ++ rest)
suffix-lettered words part rest n letters h =
    let (b, others, shape, letter) = begins-shape is_ascii_lowercase h.word (word-first is_ascii_lowercase words h.word letters (one_of words h.word h.is_word)) in
    record {
      before = h.before;
      first = b;
      others = others ++ (h.between ++ (h.digits ++ rest));
      is_before = h.is_before;
      letter = letter;
      shape = suffix-shape words part rest n h ∙ ap (λ (w : List ℕ). h.before ++ (w ++ (h.between ++ (h.digits ++ rest)))) shape;
    }

pub suffix-optional : (words : List (List ℕ)) (part rest : List ℕ) (n : ℕ) → list_all (begins is_ascii_lowercase) words ≡ true → (h : IsSuffix words part n)
    → after_optional is_separator (part ++ rest) ≡ h.word ++ (h.between ++ (h.digits ++ rest))
suffix-optional words part rest n letters h =
    let (b, others, shape, letter) = begins-shape is_ascii_lowercase h.word (word-first is_ascii_lowercase words h.word letters (one_of words h.word h.is_word)) in
    let u = h.between ++ (h.digits ++ rest) in
    ap (λ (l : List ℕ). after_optional is_separator l) (suffix-shape words part rest n h ∙ ap (λ (w : List ℕ). h.before ++ (w ++ u)) shape)
    ∙ optional-letter h.before b (others ++ u) h.is_before letter ∙ ap (λ (w : List ℕ). w ++ u) (sym shape)

suffix-opens : (words : List (List ℕ)) (part rest : List ℕ) (n : ℕ) → list_all (begins is_next) words ≡ true → IsSuffix words part n → opens is_next (part ++ rest) ≡ true
suffix-opens words part rest n nexts h =
    let (b, others, shape, next) = begins-shape is_next h.word (word-first is_next words h.word nexts (one_of words h.word h.is_word)) in
    let u = h.between ++ (h.digits ++ rest) in
    let whole = suffix-shape words part rest n h ∙ ap (λ (w : List ℕ). h.before ++ (w ++ u)) shape in
    rw whole (go h.before b (others ++ u) h.is_before next)
  where
    go : (before : List ℕ) (c : ℕ) (text : List ℕ) → IsOptionalSeparator before → is_next c ≡ true → opens is_next (before ++ (c ∷ text)) ≡ true
    go before c text (inl none) k = rw none k
    go before c text (inr (d, one, sep)) k = rw one (separator-next d _ sep)

-- the part without the separator in front of its word
moved : (words : List (List ℕ)) (part : List ℕ) (n : ℕ) (h : IsSuffix words part n) → IsSuffix words (h.word ++ (h.between ++ h.digits)) n
moved words part n h = record {
  before = [];
  word = h.word;
  between = h.between;
  digits = h.digits;
  is_before = inl refl;
  is_word = h.is_word;
  is_between = h.is_between;
  are_digits = h.are_digits;
  spelling = refl;
}

-- a word in front is no digit
word-digit : (words : List (List ℕ)) (word rest : List ℕ) → list_all (begins is_ascii_lowercase) words ≡ true → IsOneOf words word → begins is_ascii_digit (word ++ rest) ≡ false
word-digit words word rest letters o =
    let (b, others, shape, letter) = begins-shape is_ascii_lowercase word (word-first is_ascii_lowercase words word letters o) in
    rw shape (letter-digit b letter)

-- the separator in front of a word may go to the part before it
suffix-trims : (words : List (List ℕ)) (part rest : List ℕ) (n : ℕ) → list_all (begins is_ascii_lowercase) words ≡ true → (h : IsSuffix words part n)
    → number (after_optional is_separator (part ++ rest)) ≡ Some (0, h.word ++ (h.between ++ (h.digits ++ rest)))
suffix-trims words part rest n letters h =
    rw (suffix-optional words part rest n letters h) (none-number _ (word-digit words h.word _ letters (one_of words h.word h.is_word)))

-- what follows a part is no longer than the whole
behind : (text part rest : List ℕ) → text ≡ part ++ rest → length rest ≤ length text
behind text part rest whole =
    let a : length text ≡ length (part ++ rest) = ap (λ (l : List ℕ). length l) whole in let b = length-append part rest in omega arith

suffix-shorter : (words : List (List ℕ)) (text part rest : List ℕ) (n : ℕ) (h : IsSuffix words part n) → text ≡ part ++ rest
    → length (h.word ++ (h.between ++ (h.digits ++ rest))) ≤ length text
suffix-shorter words text part rest n h whole =
    behind text h.before (h.word ++ (h.between ++ (h.digits ++ rest))) (whole ∙ suffix-shape words part rest n h)

abbrev pub dev_words : List (List ℕ)
dev_words = codes "dev" ∷ []

dev-ends : (text : List ℕ) (value : Option ℕ) (part rest : List ℕ) → IsDev part value → Last rest → text ≡ part ++ rest → Ends text
dev-ends text None part rest h last whole = rw (whole, h) (Last-ends rest last)
dev-ends text (Some n) part rest h last whole = rw whole (Lettered-ends (part ++ rest) (suffix-lettered dev_words part rest n refl h))

FromDev-ends : (text : List ℕ) → FromDev text → Ends text
FromDev-ends text t = dev-ends text t.value t.part t.rest t.is_part t.last t.whole

dev-opens : (text : List ℕ) (value : Option ℕ) (part rest : List ℕ) → IsDev part value → Last rest → text ≡ part ++ rest → opens is_next text ≡ true
dev-opens text None part rest h last whole = rw (whole, h) (Last-opens rest last)
dev-opens text (Some n) part rest h last whole = rw whole (suffix-opens dev_words part rest n refl h)

FromDev-opens : (text : List ℕ) → FromDev text → opens is_next text ≡ true
FromDev-opens text t = dev-opens text t.value t.part t.rest t.is_part t.last t.whole

from_last : (text : List ℕ) → Last text → FromDev text
from_last text t = record { value = None; part = []; rest = text; is_part = refl; last = t; whole = refl }

dev-trims : (text : List ℕ) (value : Option ℕ) (part rest : List ℕ) → IsDev part value → Last rest → text ≡ part ++ rest → Reads FromDev (number (after_optional is_separator text)) (length text)
dev-trims text None part rest h last whole =
    let r = Last-follows.trims rest last in
    record { value = r.value; rest = r.rest; is = rw (whole, h) r.is; holds = from_last r.rest r.holds; shorter = let b = behind text part rest whole in let c = r.shorter in omega arith }
dev-trims text (Some n) part rest h last whole =
    record {
      value = 0;
      rest = h.word ++ (h.between ++ (h.digits ++ rest));
      is = rw whole (suffix-trims dev_words part rest n refl h);
      holds = record {
        value = Some n;
        part = h.word ++ (h.between ++ h.digits);
        rest = rest;
        is_part = moved dev_words part n h;
        last = last;
        whole = simp append_assoc;
      };
      shorter = suffix-shorter dev_words text part rest n h whole;
    }

FromDev-follows : Follows FromDev
FromDev-follows = record {
  stops = λ text t. (FromDev-ends text t).digit;
  trims = λ text t. dev-trims text t.value t.part t.rest t.is_part t.last t.whole;
}

pub dev-word : (word u : List ℕ) → IsOneOf dev_words word → after_word (codes "dev") (word ++ u) ≡ Some u
unfolding after_word
dev-word word u (inl e) = rw e refl
dev-word word u (inr none) = absurd none

dev-reads-by : (text : List ℕ) (value : Option ℕ) (part rest : List ℕ) → IsDev part value → Last rest → text ≡ part ++ rest → Reads Last (dev text) (length rest)
unfolding dev
dev-reads-by text None part rest h last whole =
    record { value = None; rest = rest; is = rw (whole, h, Last-optional rest last, Last-word rest (101 ∷ 118 ∷ []) 100 last refl) refl; holds = last; shorter = omega arith }
dev-reads-by text (Some n) part rest h last whole =
    let u = h.between ++ (h.digits ++ rest) in
    let r = suffix-reads Last Last-follows h.between h.digits rest n h.is_between h.are_digits last in
    record { value = Some r.value; rest = r.rest; is = rw (whole, suffix-optional dev_words part rest n refl h, dev-word h.word u (one_of dev_words h.word h.is_word), r.is) refl; holds = r.holds; shorter = r.shorter }

pub dev-reads : (text : List ℕ) (t : FromDev text) → Reads Last (dev text) (length t.rest)
dev-reads text t = dev-reads-by text t.value t.part t.rest t.is_part t.last t.whole

-- ---- the post part and what follows it

pub record FromPost (text : List ℕ) : Type 0 where
  pub value : Option ℕ
  pub part : List ℕ
  pub rest : List ℕ
  pub is_part : IsPost part value
  pub later : FromDev rest
  pub whole : text ≡ part ++ rest

from_dev : (text : List ℕ) → FromDev text → FromPost text
from_dev text t = record { value = None; part = []; rest = text; is_part = refl; later = t; whole = refl }

post-ends : (text : List ℕ) (value : Option ℕ) (part rest : List ℕ) → IsPost part value → FromDev rest → text ≡ part ++ rest → Ends text
unfolding marked_digits after_word
post-ends text None part rest h later whole = rw (whole, h) (FromDev-ends rest later)
post-ends text (Some n) part rest (inl (digits, num, dash)) later whole = rw (whole, dash) (record { digit = refl; point = refl; mark = refl })
post-ends text (Some n) part rest (inr h) later whole = rw whole (Lettered-ends (part ++ rest) (suffix-lettered post_words part rest n refl h))

FromPost-ends : (text : List ℕ) → FromPost text → Ends text
FromPost-ends text t = post-ends text t.value t.part t.rest t.is_part t.later t.whole

post-opens : (text : List ℕ) (value : Option ℕ) (part rest : List ℕ) → IsPost part value → FromDev rest → text ≡ part ++ rest → opens is_next text ≡ true
post-opens text None part rest h later whole = rw (whole, h) (FromDev-opens rest later)
post-opens text (Some n) part rest (inl (digits, num, dash)) later whole = rw (whole, dash) refl
post-opens text (Some n) part rest (inr h) later whole = rw whole (suffix-opens post_words part rest n refl h)

FromPost-opens : (text : List ℕ) → FromPost text → opens is_next text ≡ true
FromPost-opens text t = post-opens text t.value t.part t.rest t.is_part t.later t.whole

post-trims : (text : List ℕ) (value : Option ℕ) (part rest : List ℕ) → IsPost part value → FromDev rest → text ≡ part ++ rest → Reads FromPost (number (after_optional is_separator text)) (length text)
post-trims text None part rest h later whole =
    let r = FromDev-follows.trims rest later in
    record { value = r.value; rest = r.rest; is = rw (whole, h) r.is; holds = from_dev r.rest r.holds; shorter = let b = behind text part rest whole in let c = r.shorter in omega arith }
post-trims text (Some n) part rest (inl (digits, num, dash)) later whole =
    record {
      value = n;
      rest = rest;
      is = rw (whole, dash) (number-digits digits rest n num.digits num.value num.fits (FromDev-follows.stops rest later));
      holds = from_dev rest later;
      shorter = behind text part rest whole;
    }
post-trims text (Some n) part rest (inr h) later whole =
    record {
      value = 0;
      rest = h.word ++ (h.between ++ (h.digits ++ rest));
      is = rw whole (suffix-trims post_words part rest n refl h);
      holds = record {
        value = Some n;
        part = h.word ++ (h.between ++ h.digits);
        rest = rest;
        is_part = inr (moved post_words part n h);
        later = later;
        whole = simp append_assoc;
      };
      shorter = suffix-shorter post_words text part rest n h whole;
    }

FromPost-follows : Follows FromPost
FromPost-follows = record {
  stops = λ text t. (FromPost-ends text t).digit;
  trims = λ text t. post-trims text t.value t.part t.rest t.is_part t.later t.whole;
}

pub post-word : (word u : List ℕ) → IsOneOf post_words word → begins (λ b. b == 101) u ≡ false → after_any post_words (word ++ u) ≡ Some u
unfolding after_word
post-word word u (inl e) h = rw e refl
post-word word u (inr (inl e)) h = rw e refl
post-word word [] (inr (inr (inl e))) h = rw e refl
post-word word (c ∷ u) (inr (inr (inl e))) h = rw (e, h) refl
post-word word u (inr (inr (inr none))) h = absurd none

no_post : (word u : List ℕ) → IsOneOf dev_words word → after_any post_words (word ++ u) ≡ None
unfolding after_word
no_post word u (inl e) = rw e refl
no_post word u (inr none) = absurd none

-- no post part stands in front of a dev or local part
post-none : (text : List ℕ) (value : Option ℕ) (part rest : List ℕ) → IsDev part value → Last rest → text ≡ part ++ rest
    → (marked_digits (codes "-") text ≡ None) × (after_any post_words (after_optional is_separator text) ≡ None)
unfolding marked_digits
post-none text None part rest h last whole =
    rw (whole, h) (
      rw (Last-word rest [] 45 last refl) refl,
      rw (Last-optional rest last, Last-word rest (111 ∷ 115 ∷ 116 ∷ []) 112 last refl, Last-word rest (101 ∷ 118 ∷ []) 114 last refl, Last-word rest [] 114 last refl) refl,
    )
post-none text (Some n) part rest h last whole =
    let l = suffix-lettered dev_words part rest n refl h in
    rw whole (
      rw l.shape (marked-letter 45 l.before l.first l.others (omega arith) l.is_before l.letter),
      rw (suffix-optional dev_words part rest n refl h) (no_post h.word _ (one_of dev_words h.word h.is_word)),
    )

num-begins : (digits rest : List ℕ) (n : ℕ) → IsNum digits n → begins is_ascii_digit (digits ++ rest) ≡ true
num-begins digits rest n num = let d = first_digit digits num.nonempty num.digits in rw d.shape d.digit

pub marked-dash : (digits rest : List ℕ) (n : ℕ) → IsNum digits n → marked_digits (codes "-") (45 ∷ (digits ++ rest)) ≡ Some (digits ++ rest)
unfolding marked_digits after_word
marked-dash digits rest n num = rw (num-begins digits rest n num) refl

post-reads-by : (text : List ℕ) (value : Option ℕ) (part rest : List ℕ) → IsPost part value → FromDev rest → text ≡ part ++ rest → Reads FromDev (post text) (length rest)
unfolding post
post-reads-by text None part rest h later whole =
    let none = post-none rest later.value later.part later.rest later.is_part later.last later.whole in
    record { value = None; rest = rest; is = rw (whole, h, none.0, none.1) refl; holds = later; shorter = omega arith }
post-reads-by text (Some n) part rest (inl (digits, num, dash)) later whole =
    let read = number-digits digits rest n num.digits num.value num.fits (FromDev-follows.stops rest later) in
    record { value = Some n; rest = rest; is = rw (whole, dash, marked-dash digits rest n num, read) refl; holds = later; shorter = omega arith }
post-reads-by text (Some n) part rest (inr h) later whole =
    let u = h.between ++ (h.digits ++ rest) in
    let l = suffix-lettered post_words part rest n refl h in
    let no_dash : marked_digits (codes "-") (part ++ rest) ≡ None = rw l.shape (marked-letter 45 l.before l.first l.others (omega arith) l.is_before l.letter) in
    let other = opens-other u 101 (word-opens h.between h.digits rest n h.is_between h.are_digits (FromDev-opens rest later)) refl in
    let r = suffix-reads FromDev FromDev-follows h.between h.digits rest n h.is_between h.are_digits later in
    record { value = Some r.value; rest = r.rest; is = rw (whole, no_dash, suffix-optional post_words part rest n refl h, post-word h.word u (one_of post_words h.word h.is_word) other, r.is) refl; holds = r.holds; shorter = r.shorter }

pub post-reads : (text : List ℕ) (t : FromPost text) → Reads FromDev (post text) (length t.rest)
post-reads text t = post-reads-by text t.value t.part t.rest t.is_part t.later t.whole

-- ---- the pre part and what follows it

pub record FromPre (text : List ℕ) : Type 0 where
  pub value : Option Pre
  pub part : List ℕ
  pub rest : List ℕ
  pub is_part : IsPre part value
  pub later : FromPost rest
  pub whole : text ≡ part ++ rest

pub kind-letters : (k : PreKind) → list_all (begins is_ascii_lowercase) (kind_words k) ≡ true
kind-letters A = refl
kind-letters B = refl
kind-letters Rc = refl

pre-ends : (text : List ℕ) (value : Option Pre) (part rest : List ℕ) → IsPre part value → FromPost rest → text ≡ part ++ rest → Ends text
pre-ends text None part rest h later whole = rw (whole, h) (FromPost-ends rest later)
pre-ends text (Some p) part rest h later whole =
    rw whole (Lettered-ends (part ++ rest) (suffix-lettered (kind_words p.kind) part rest p.number (kind-letters p.kind) h))

pub FromPre-ends : (text : List ℕ) → FromPre text → Ends text
FromPre-ends text t = pre-ends text t.value t.part t.rest t.is_part t.later t.whole

-- the kind is read from its word, where no letter follows that would make another word
pub kind-word : (k : PreKind) (word u : List ℕ) → IsOneOf (kind_words k) word → opens is_next u ≡ true → any_kind (word ++ u) ≡ Some (k, u)
unfolding after_word
kind-word A word u (inl e) o = rw e refl
kind-word A word [] (inr (inl e)) o = rw e refl
kind-word A word (c ∷ u) (inr (inl e)) o = rw (e, opens-other (c ∷ u) 108 o refl) refl
kind-word A word u (inr (inr none)) o = absurd none
kind-word B word u (inl e) o = rw e refl
kind-word B word [] (inr (inl e)) o = rw e refl
kind-word B word (c ∷ u) (inr (inl e)) o = rw (e, opens-other (c ∷ u) 101 o refl) refl
kind-word B word u (inr (inr none)) o = absurd none
kind-word Rc word u (inl e) o = rw e refl
kind-word Rc word [] (inr (inl e)) o = rw e refl
kind-word Rc word (c ∷ u) (inr (inl e)) o = rw (e, opens-other (c ∷ u) 118 o refl) refl
kind-word Rc word u (inr (inr (inl e))) o = rw e refl
kind-word Rc word u (inr (inr (inr (inl e)))) o = rw e refl
kind-word Rc word u (inr (inr (inr (inr none)))) o = absurd none

last-no_kind : (text : List ℕ) → Last text → any_kind (after_optional is_separator text) ≡ None
unfolding after_word
last-no_kind text t = elim (last-cases text t) [ inl none ↦ rw none refl | inr (rest, plus) ↦ rw plus refl ]

dev-word-no_kind : (word u : List ℕ) → IsOneOf dev_words word → any_kind (word ++ u) ≡ None
unfolding after_word
dev-word-no_kind word u (inl e) = rw e refl
dev-word-no_kind word u (inr none) = absurd none

dev-no_kind : (text : List ℕ) (value : Option ℕ) (part rest : List ℕ) → IsDev part value → Last rest → text ≡ part ++ rest → any_kind (after_optional is_separator text) ≡ None
dev-no_kind text None part rest h last whole = rw (whole, h) (last-no_kind rest last)
dev-no_kind text (Some n) part rest h last whole = rw (whole, suffix-optional dev_words part rest n refl h) (dev-word-no_kind h.word _ (one_of dev_words h.word h.is_word))

post-word-no_kind : (word u : List ℕ) → IsOneOf post_words word → opens is_next u ≡ true → any_kind (word ++ u) ≡ None
unfolding after_word
post-word-no_kind word u (inl e) o = rw e refl
post-word-no_kind word u (inr (inl e)) o = rw e refl
post-word-no_kind word [] (inr (inr (inl e))) o = rw e refl
post-word-no_kind word (c ∷ u) (inr (inr (inl e))) o = rw (e, opens-other (c ∷ u) 99 o refl) refl
post-word-no_kind word u (inr (inr (inr none))) o = absurd none

digit-no_kind : (b : ℕ) (text : List ℕ) → is_ascii_digit b ≡ true → any_kind (b ∷ text) ≡ None
unfolding after_word
digit-no_kind b text h =
    rw (digit-other b 97 h (omega arith), digit-other b 98 h (omega arith), digit-other b 112 h (omega arith), digit-other b 114 h (omega arith), digit-other b 99 h (omega arith)) refl

post-no_kind : (text : List ℕ) (value : Option ℕ) (part rest : List ℕ) → IsPost part value → FromDev rest → text ≡ part ++ rest → any_kind (after_optional is_separator text) ≡ None
post-no_kind text None part rest h later whole = rw (whole, h) (dev-no_kind rest later.value later.part later.rest later.is_part later.last later.whole)
post-no_kind text (Some n) part rest (inl (digits, num, dash)) later whole =
    let d = first_digit digits num.nonempty num.digits in
    rw (whole, dash, d.shape) (digit-no_kind d.first (d.others ++ rest) d.digit)
post-no_kind text (Some n) part rest (inr h) later whole =
    rw (whole, suffix-optional post_words part rest n refl h)
    (post-word-no_kind h.word _ (one_of post_words h.word h.is_word) (word-opens h.between h.digits rest n h.is_between h.are_digits (FromDev-opens rest later)))

pre-reads-by : (text : List ℕ) (value : Option Pre) (part rest : List ℕ) → IsPre part value → FromPost rest → text ≡ part ++ rest → Reads FromPost (pre text) (length rest)
unfolding pre
pre-reads-by text None part rest h later whole =
    record { value = None; rest = rest; is = rw (whole, h, post-no_kind rest later.value later.part later.rest later.is_part later.later later.whole) refl; holds = later; shorter = omega arith }
pre-reads-by text (Some p) part rest h later whole =
    let u = h.between ++ (h.digits ++ rest) in
    let o = word-opens h.between h.digits rest p.number h.is_between h.are_digits (FromPost-opens rest later) in
    let r = suffix-reads FromPost FromPost-follows h.between h.digits rest p.number h.is_between h.are_digits later in
    record {
      value = Some (record { kind = p.kind; number = r.value });
      rest = r.rest;
      is = rw (whole, suffix-optional (kind_words p.kind) part rest p.number (kind-letters p.kind) h, kind-word p.kind h.word u (one_of (kind_words p.kind) h.word h.is_word) o, r.is) refl;
      holds = r.holds;
      shorter = r.shorter;
    }

pub pre-reads : (text : List ℕ) (t : FromPre text) → Reads FromPost (pre text) (length t.rest)
pre-reads text t = pre-reads-by text t.value t.part t.rest t.is_part t.later t.whole

-- ---- the release and the epoch

points-begin : (part ns text : List ℕ) → ArePoints part ns → Ends text → begins is_ascii_digit (part ++ text) ≡ false
points-begin part [] text h e = rw h e.digit
points-begin part (n ∷ ns) text (digits, rest, num, more, whole) e = rw whole refl

points-mark : (part ns text : List ℕ) → ArePoints part ns → Ends text → after_word (codes "!") (part ++ text) ≡ None
unfolding after_word
points-mark part [] text h e = rw h e.mark
points-mark part (n ∷ ns) text (digits, rest, num, more, whole) e = rw whole refl

marked-point : (digits rest : List ℕ) (n : ℕ) → IsNum digits n → marked_digits (codes ".") (46 ∷ (digits ++ rest)) ≡ Some (digits ++ rest)
unfolding marked_digits after_word
marked-point digits rest n num = rw (num-begins digits rest n num) refl

points-read : (part ns text : List ℕ) (most : ℕ) → ArePoints part ns → Ends text → length ns ≤ most → points most (part ++ text) ≡ Some (ns, text)
unfolding points
points-read part [] text zero h e k = rw h refl
points-read part [] text (suc most) h e k = rw (h, e.point) refl
points-read part (n ∷ ns) text zero h e k = absurd (omega arith)
points-read part (n ∷ ns) text (suc most) (digits, rest, num, more, whole) e k =
    let group : (digits ++ rest) ++ text ≡ digits ++ (rest ++ text) = append_assoc digits rest text in
    rw (
      whole,
      group,
      marked-point digits (rest ++ text) n num,
      number-digits digits (rest ++ text) n num.digits num.value num.fits (points-begin rest ns text more e),
      points-read rest ns text most more e (omega arith),
    ) refl

points-length : (part ns : List ℕ) → ArePoints part ns → length ns ≤ length part
points-length part [] h = omega arith
points-length part (n ∷ ns) (digits, rest, num, more, whole) =
    let a = points-length rest ns more in
    let b = length-append digits rest in
    let c : length part ≡ suc (length (digits ++ rest)) = ap (λ (l : List ℕ). length l) whole in
    omega arith

pub release-read : (part ns text : List ℕ) → IsRelease part ns → Ends text → release (part ++ text) ≡ Some (ns, text)
unfolding release required_number
release-read part [] text h e = absurd h
release-read part (n ∷ ns) text (digits, rest, num, more, whole) e =
    let group : (digits ++ rest) ++ text ≡ digits ++ (rest ++ text) = append_assoc digits rest text in
    let room : length ns ≤ length (digits ++ (rest ++ text)) =
    let a = points-length rest ns more in let b = length-append digits (rest ++ text) in let c = length-append rest text in omega arith in
    rw (
      whole,
      group,
      num-begins digits (rest ++ text) n num,
      number-digits digits (rest ++ text) n num.digits num.value num.fits (points-begin rest ns text more e),
      points-read rest ns text (length (digits ++ (rest ++ text))) more e room,
    ) refl

pub epoch-read : (part : List ℕ) (n : ℕ) (release_part ns text : List ℕ) → IsEpoch part n → IsRelease release_part ns → Ends text
    → epoch (part ++ (release_part ++ text)) ≡ Some (n, release_part ++ text)
unfolding epoch after_word
epoch-read part n release_part [] text h r e = absurd r
epoch-read part n release_part (m ∷ ns) text (inl (none, absent)) (digits, rest, num, more, whole) e =
    let group : (digits ++ rest) ++ text ≡ digits ++ (rest ++ text) = append_assoc digits rest text in
    rw (
      none,
      absent,
      whole,
      group,
      num-begins digits (rest ++ text) m num,
      number-digits digits (rest ++ text) m num.digits num.value num.fits (points-begin rest ns text more e),
      points-mark rest ns text more e,
    ) refl
epoch-read part n release_part (m ∷ ns) text (inr (digits, num, mark)) r e =
    let group : (digits ++ codes "!") ++ (release_part ++ text) ≡ digits ++ (codes "!" ++ (release_part ++ text)) = append_assoc digits (codes "!") (release_part ++ text) in
    rw (
      mark,
      group,
      num-begins digits (codes "!" ++ (release_part ++ text)) n num,
      number-digits digits (codes "!" ++ (release_part ++ text)) n num.digits num.value num.fits refl,
    ) refl

no_letter : (digits rest : List ℕ) (n : ℕ) → IsNum digits n → after_optional (λ b. b == 118) (digits ++ rest) ≡ digits ++ rest
no_letter digits rest n num = let d = first_digit digits num.nonempty num.digits in rw (d.shape, digit-other d.first 118 d.digit (omega arith)) refl

epoch-letter : (part : List ℕ) (n : ℕ) (release_part ns text : List ℕ) → IsEpoch part n → IsRelease release_part ns
    → after_optional (λ b. b == 118) (part ++ (release_part ++ text)) ≡ part ++ (release_part ++ text)
epoch-letter part n release_part [] text h r = absurd r
epoch-letter part n release_part (m ∷ ns) text (inl (none, absent)) (digits, rest, num, more, whole) =
    let group : (digits ++ rest) ++ text ≡ digits ++ (rest ++ text) = append_assoc digits rest text in
    rw (none, whole, group) (no_letter digits (rest ++ text) m num)
epoch-letter part n release_part (m ∷ ns) text (inr (digits, num, mark)) r =
    let group : (digits ++ codes "!") ++ (release_part ++ text) ≡ digits ++ (codes "!" ++ (release_part ++ text)) = append_assoc digits (codes "!") (release_part ++ text) in
    rw (mark, group) (no_letter digits (codes "!" ++ (release_part ++ text)) n num)

pub letter-read : (letter part : List ℕ) (n : ℕ) (release_part ns text : List ℕ) → (letter ≡ []) ⊎ (letter ≡ codes "v") → IsEpoch part n → IsRelease release_part ns
    → after_optional (λ b. b == 118) (letter ++ (part ++ (release_part ++ text))) ≡ part ++ (release_part ++ text)
letter-read letter part n release_part ns text (inl none) h r = rw none (epoch-letter part n release_part ns text h r)
letter-read letter part n release_part ns text (inr v) h r = rw v refl

-- ---- the whole text

pub fields-complete : (text : List ℕ) (f : Fields) → IsSpelled text f → IsSome (fields_of text)
unfolding fields_of
fields-complete text f h =
    let last : Last h.local = record { segments = f.local; is_local = h.is_local } in
    let d : FromDev (h.dev ++ h.local) = record { value = f.dev; part = h.dev; rest = h.local; is_part = h.is_dev; last = last; whole = refl } in
    let q : FromPost (h.post ++ (h.dev ++ h.local)) = record { value = f.post; part = h.post; rest = h.dev ++ h.local; is_part = h.is_post; later = d; whole = refl } in
    let tail = h.pre ++ (h.post ++ (h.dev ++ h.local)) in
    let p : FromPre tail = record { value = f.pre; part = h.pre; rest = h.post ++ (h.dev ++ h.local); is_part = h.is_pre; later = q; whole = refl } in
    let ends = FromPre-ends tail p in
    let rp = pre-reads tail p in
    let rq = post-reads rp.rest rp.holds in
    let rd = dev-reads rq.rest rq.holds in
    rw (
      h.spelling,
      letter-read h.letter h.epoch f.epoch h.release f.release tail h.is_letter h.is_epoch h.is_release,
      epoch-read h.epoch f.epoch h.release f.release tail h.is_epoch h.is_release ends,
      release-read h.release f.release tail h.is_release ends,
      rp.is,
      rq.is,
      rd.is,
      local-read rd.rest rd.holds.segments rd.holds.is_local,
    ) refl
