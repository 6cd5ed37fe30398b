-- The normal text of a version (PEP 440, "Normalization" and the canonical form of each part).
use Rattle.std.specs.Prelude.{ℕ, ◌==◌, ◌||◌, Bool, List, [], ◌∷◌, ◌++◌, codes, Option, Some, None, if◌then◌else◌}
use Rattle.std.specs.Fmt.{decimal}
use Rattle.ul_version.specs.Ascii.{exclamation_mark, plus, point}
use Rattle.ul_version.specs.Fields.{Fields, is_word_byte}
use Rattle.ul_version.specs.declared.fields.Pre.{Pre}
use Rattle.ul_version.specs.declared.fields.PreKind.{PreKind}
use Rattle.ul_version.specs.declared.fields.PreKind.TheVariants.{A, B, Rc}
use Rattle.ul_version.specs.declared.fields.Segment.{Segment}
use Rattle.ul_version.specs.declared.fields.Segment.TheVariants.{Number, Word}

-- the epoch with its mark, where it isn't 0
abbrev pub epoch_text : ℕ → List ℕ
epoch_text n = if n == 0 then [] else decimal n ++ codes "!"

-- numbers, each after a point
abbrev pub points_text : List ℕ → List ℕ
points_text [] = []
points_text (n ∷ ns) = codes "." ++ (decimal n ++ points_text ns)

-- the numbers of a release, with a point between each two
abbrev pub release_text : List ℕ → List ℕ
release_text [] = []
release_text (n ∷ ns) = decimal n ++ points_text ns

-- the letters of a kind of pre-release
abbrev pub kind_text : PreKind → List ℕ
kind_text A = codes "a"
kind_text B = codes "b"
kind_text Rc = codes "rc"

-- the pre part, where there is one
abbrev pub pre_text : Option Pre → List ℕ
pre_text None = []
pre_text (Some p) = kind_text p.kind ++ decimal p.number

-- a word and its number, where there is one
abbrev pub numbered_text : List ℕ → Option ℕ → List ℕ
numbered_text word None = []
numbered_text word (Some n) = word ++ decimal n

-- a segment of the local part
abbrev pub segment_text : Segment → List ℕ
segment_text (Number n) = decimal n
segment_text (Word text) = text

-- segments, each after a point
abbrev pub segments_text : List Segment → List ℕ
segments_text [] = []
segments_text (s ∷ ss) = codes "." ++ (segment_text s ++ segments_text ss)

-- the local part with its mark, where there is one
abbrev pub local_text : List Segment → List ℕ
local_text [] = []
local_text (s ∷ ss) = codes "+" ++ (segment_text s ++ segments_text ss)

-- the normal text: epoch, release, pre, post, dev and local part
unfoldable pub version_text : Fields → List ℕ
version_text f =
    epoch_text f.epoch ++ (release_text f.release ++ (pre_text f.pre
    ++ (numbered_text (codes ".post") f.post ++ (numbered_text (codes ".dev") f.dev ++ local_text f.local))))

-- a byte of a normal text: a digit, a lower-case letter, a point, an exclamation mark or a plus sign
abbrev pub is_text_byte : ℕ → Bool
is_text_byte b = is_word_byte b || (b == point || (b == exclamation_mark || b == plus))
