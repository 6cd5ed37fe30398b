-- The grammar of versions, as a relation between a text and what it spells: PEP 440, "Version
-- specifiers", with the spellings of "Normalization". Each definition is one rule of the grammar; a part
-- in brackets may be the empty text. The text has lower-case letters and no white space at its ends.
use Rattle.std.specs.Prelude.{◌≡◌, ℕ, ◌+◌, ◌-◌, ◌*◌, ◌^◌, ◌<◌, IsTrue, List, [], ◌∷◌, ◌++◌, length, codes, Option, Some, None, ◌⊎◌}
use Rattle.std.specs.List.{Contains}
use Rattle.std.specs.Char.{is_ascii_digit}
use Rattle.std.specs.List.{list_all}
use Rattle.ul_version.specs.Fields.{Fields, is_word}
use Rattle.ul_version.specs.Ascii.{is_separator}
use Rattle.ul_version.specs.declared.fields.Pre.{Pre}
use Rattle.ul_version.specs.declared.fields.PreKind.{PreKind}
use Rattle.ul_version.specs.declared.fields.PreKind.TheVariants.{A, B, Rc}
use Rattle.ul_version.specs.declared.fields.Segment.{Segment}
use Rattle.ul_version.specs.declared.fields.Segment.TheVariants.{Number, Word}

-- the number that digits write after those of n
unfoldable pub value_after : ℕ → List ℕ → ℕ
value_after n [] = n
value_after n (b ∷ rest) = value_after (n * 10 + (b - 48)) rest

-- num: one digit or more, of a value below 2^64
pub record IsNum (text : List ℕ) (n : ℕ) : Type 0 where
  pub nonempty : 0 < length text
  pub digits : IsTrue (list_all is_ascii_digit text)
  pub value : value_after 0 text ≡ n
  pub fits : n < 2 ^ 64

-- [num], which is 0 where it is empty
abbrev pub IsOptionalNum : List ℕ → ℕ → Type 0
IsOptionalNum text n = ((text ≡ []) × (n ≡ 0)) ⊎ IsNum text n

-- [sep]
abbrev pub IsOptionalSeparator : List ℕ → Type 0
IsOptionalSeparator text = (text ≡ []) ⊎ ((b : ℕ) × (text ≡ b ∷ []) × IsTrue (is_separator b))

-- [sep] WORD [sep] [num]
pub record IsSuffix (words : List (List ℕ)) (text : List ℕ) (n : ℕ) : Type 0 where
  pub before : List ℕ
  pub word : List ℕ
  pub between : List ℕ
  pub digits : List ℕ
  pub is_before : IsOptionalSeparator before
  pub is_word : Contains words word
  pub is_between : IsOptionalSeparator between
  pub are_digits : IsOptionalNum digits n
  pub spelling : text ≡ before ++ (word ++ (between ++ digits))

-- [num "!"], which is 0 where it is empty
abbrev pub IsEpoch : List ℕ → ℕ → Type 0
IsEpoch text n = ((text ≡ []) × (n ≡ 0)) ⊎ ((digits : List ℕ) × IsNum digits n × (text ≡ digits ++ codes "!"))

-- *("." num)
abbrev pub ArePoints : List ℕ → List ℕ → Type 0
ArePoints text [] = text ≡ []
ArePoints text (n ∷ ns) =
    (digits rest : List ℕ) × IsNum digits n × ArePoints rest ns × (text ≡ codes "." ++ (digits ++ rest))

-- num *("." num)
abbrev pub IsRelease : List ℕ → List ℕ → Type 0
IsRelease text [] = ⊥
IsRelease text (n ∷ ns) = (digits rest : List ℕ) × IsNum digits n × ArePoints rest ns × (text ≡ digits ++ rest)

-- the words of a kind of pre-release
abbrev pub kind_words : PreKind → List (List ℕ)
kind_words A = codes "alpha" ∷ codes "a" ∷ []
kind_words B = codes "beta" ∷ codes "b" ∷ []
kind_words Rc = codes "preview" ∷ codes "pre" ∷ codes "rc" ∷ codes "c" ∷ []

-- [pre]
abbrev pub IsPre : List ℕ → Option Pre → Type 0
IsPre text None = text ≡ []
IsPre text (Some p) = IsSuffix (kind_words p.kind) text p.number

-- the words of a post-release
abbrev pub post_words : List (List ℕ)
post_words = codes "post" ∷ codes "rev" ∷ codes "r" ∷ []

-- [post]: "-" num, or a word with its number
abbrev pub IsPost : List ℕ → Option ℕ → Type 0
IsPost text None = text ≡ []
IsPost text (Some n) =
    ((digits : List ℕ) × IsNum digits n × (text ≡ codes "-" ++ digits)) ⊎ IsSuffix post_words text n

-- [dev]
abbrev pub IsDev : List ℕ → Option ℕ → Type 0
IsDev text None = text ≡ []
IsDev text (Some n) = IsSuffix (codes "dev" ∷ []) text n

-- seg: letters and digits, a number where there are digits alone
abbrev pub IsSpelledSegment : List ℕ → Segment → Type 0
IsSpelledSegment text (Number n) = IsNum text n
IsSpelledSegment text (Word word) = (text ≡ word) × IsTrue (is_word word)

-- seg *(sep seg)
abbrev pub AreSegments : List ℕ → List Segment → Type 0
AreSegments text [] = ⊥
AreSegments text (s ∷ []) = IsSpelledSegment text s
AreSegments text (s ∷ t ∷ ss) =
    (piece rest : List ℕ) × (b : ℕ) × IsSpelledSegment piece s × IsTrue (is_separator b)
    × AreSegments rest (t ∷ ss) × (text ≡ piece ++ (b ∷ rest))

-- ["+" local]
abbrev pub IsLocal : List ℕ → List Segment → Type 0
IsLocal text [] = text ≡ []
IsLocal text (s ∷ ss) = (rest : List ℕ) × AreSegments rest (s ∷ ss) × (text ≡ codes "+" ++ rest)

-- ["v"] [num "!"] num *("." num) [pre] [post] [dev] ["+" local]
pub record IsSpelled (text : List ℕ) (f : Fields) : Type 0 where
  pub letter : List ℕ
  pub epoch : List ℕ
  pub release : List ℕ
  pub pre : List ℕ
  pub post : List ℕ
  pub dev : List ℕ
  pub local : List ℕ
  pub is_letter : (letter ≡ []) ⊎ (letter ≡ codes "v")
  pub is_epoch : IsEpoch epoch f.epoch
  pub is_release : IsRelease release f.release
  pub is_pre : IsPre pre f.pre
  pub is_post : IsPost post f.post
  pub is_dev : IsDev dev f.dev
  pub is_local : IsLocal local f.local
  pub spelling : text ≡ letter ++ (epoch ++ (release ++ (pre ++ (post ++ (dev ++ local)))))
