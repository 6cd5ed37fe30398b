-- What holds of the readings, the texts and the order of all versions.
use Rattle.std.specs.Prelude.{◌≡◌, ◌↔◌, ℕ, ◌<◌, IsTrue, List, [], ◌∷◌, length, Some, IsSome, false}
use Rattle.std.specs.List.{list_all}
use Rattle.std.specs.Ordering.{ordering_reverse, is_gt, is_lt}
use Rattle.std.specs.declared.cmp.Ordering.TheVariants.{Less, Equal}
use Rattle.ul_version.specs.Fields.{Fields, IsVersion, version_above}
use Rattle.ul_version.specs.Order.{numbers_cmp, version_cmp, DifferInZeros}
use Rattle.ul_version.specs.Grammar.{IsSpelled}
use Rattle.ul_version.specs.Reading.{version_of, lowercase_text, before_white, after_white}
use Rattle.ul_version.specs.Texts.{version_text, is_text_byte}

-- the order is total; each two versions compare one way, as each answer is one of three
pub record IsOrder : Type 0 where
  pub reflexive : (f : Fields) → version_cmp f f ≡ Equal
  pub antisymmetric : (f g : Fields) → version_cmp f g ≡ ordering_reverse (version_cmp g f)
  pub transitive : (f g h : Fields) → is_gt (version_cmp f g) ≡ false → is_gt (version_cmp g h) ≡ false → is_gt (version_cmp f h) ≡ false
  pub strict : (f g h : Fields) → version_cmp f g ≡ Less → version_cmp g h ≡ Less → version_cmp f h ≡ Less
  pub alike : (f g h : Fields) → version_cmp f g ≡ Equal → version_cmp f h ≡ version_cmp g h

-- versions tie exactly where they differ in nothing but zeros at the end of the release
abbrev pub TiesAreZeros : Type 0
TiesAreZeros = (f g : Fields) → (version_cmp f g ≡ Equal) ↔ DifferInZeros f g

-- the normal text of a version reads as the version
abbrev pub TextReads : Type 0
TextReads = (f : Fields) → IsVersion f → version_of (version_text f) ≡ Some f

-- versions with one normal text are the same
abbrev pub TextTells : Type 0
TextTells = (f g : Fields) → IsVersion f → IsVersion g → version_text f ≡ version_text g → f ≡ g

-- a normal text isn't empty, and has only digits, lower-case letters, points, `!` and `+`
abbrev pub TextIsPlain : Type 0
TextIsPlain = (f : Fields) → IsVersion f → IsTrue (list_all is_text_byte (version_text f)) × (0 < length (version_text f))

-- a text without white space at its ends, in lower case
abbrev pub trimmed_lowercase : List ℕ → List ℕ
trimmed_lowercase text = lowercase_text (before_white (after_white text))

-- what a text is read as is what the grammar spells it as
abbrev pub ReadIsSpelled : Type 0
ReadIsSpelled = (text : List ℕ) (f : Fields) → version_of text ≡ Some f → IsSpelled (trimmed_lowercase text) f

-- what the grammar spells has a reading
abbrev pub SpelledIsRead : Type 0
SpelledIsRead = (text : List ℕ) (f : Fields) → IsSpelled (trimmed_lowercase text) f → IsSome (version_of text)

-- how long each part of a spelling is, from the front; what is left is the local part
abbrev pub part_lengths : {text : List ℕ} {f : Fields} → IsSpelled text f → List ℕ
part_lengths s = length s.letter ∷ length s.epoch ∷ length s.release ∷ length s.pre ∷ length s.post ∷ length s.dev ∷ []

-- of all spellings of a text, it is read by the one whose earlier parts are longest
abbrev pub EarlierIsLongest : Type 0
EarlierIsLongest = (text : List ℕ) (f g : Fields) (other : IsSpelled (trimmed_lowercase text) f) → version_of text ≡ Some g
    → (read : IsSpelled (trimmed_lowercase text) g) × (is_lt (numbers_cmp (part_lengths read) (part_lengths other)) ≡ false)

-- two spellings of one text with parts of equal lengths are one version, so the grammar and the longest parts determine
-- what a text is read as
abbrev pub SpellingsAreOne : Type 0
SpellingsAreOne = (text : List ℕ) (f g : Fields) (one : IsSpelled text f) (other : IsSpelled text g)
    → part_lengths one ≡ part_lengths other → f ≡ g

-- a version is less than the one above it, which is a version
abbrev pub GreaterIsVersion : Type 0
GreaterIsVersion = (f : Fields) → IsVersion f → IsVersion (version_above f) × (version_cmp f (version_above f) ≡ Less)

-- what a text is read as is a version
abbrev pub ReadIsVersion : Type 0
ReadIsVersion = (text : List ℕ) (f : Fields) → version_of text ≡ Some f → IsVersion f
