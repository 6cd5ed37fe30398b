-- A version as plain data: what a text of PEP 440 ("Version specifiers", "Public version identifiers"
-- and "Local version identifiers") says, part by part.
use Rattle.std.specs.Prelude.{ℕ, ◌<◌, ◌^◌, ◌&&◌, ◌||◌, Bool, IsTrue, List, [], ◌∷◌, ◌++◌, length, Option, None, All, IfSome, is_some}
use Rattle.std.specs.Char.{is_ascii_digit, is_ascii_lowercase}
use Rattle.std.specs.List.{list_all, list_any}
use Rattle.ul_version.specs.declared.fields.Pre.{Pre}
use Rattle.ul_version.specs.declared.fields.Segment.{Segment}
use Rattle.ul_version.specs.declared.fields.Segment.TheVariants.{Number, Word}

-- epoch, release, pre-release, post-release, developmental release, and the local part's segments,
-- of which there are none where there is no local part
pub record Fields : Type 0 where
  pub epoch : ℕ
  pub release : List ℕ
  pub pre : Option Pre
  pub post : Option ℕ
  pub dev : Option ℕ
  pub local : List Segment

-- a number of 64 bits
abbrev pub IsNumber64 : ℕ → Type 0
IsNumber64 n = n < 2 ^ 64

-- a byte of a word of the local part: a lower-case ASCII letter or a digit
abbrev pub is_word_byte : ℕ → Bool
is_word_byte b = is_ascii_digit b || is_ascii_lowercase b

-- a word of the local part: such bytes, and not digits alone
abbrev pub is_word : List ℕ → Bool
is_word text = list_all is_word_byte text && list_any is_ascii_lowercase text

-- a segment of the local part: a number or a word
abbrev pub IsSegment : Segment → Type 0
IsSegment (Number n) = n < 2 ^ 64
IsSegment (Word text) = IsTrue (is_word text)

-- fields that some text spells: a release that isn't empty, numbers of 64 bits, and words
pub record IsVersion (f : Fields) : Type 0 where
  pub nonempty : 0 < length f.release
  pub epoch_fits : f.epoch < 2 ^ 64
  pub release_fits : All IsNumber64 f.release
  pub pre_fits : IfSome f.pre (λ p. p.number < 2 ^ 64)
  pub post_fits : IfSome f.post IsNumber64
  pub dev_fits : IfSome f.dev IsNumber64
  pub segments : All IsSegment f.local

-- a pre-release is a version with a pre or a dev part
abbrev pub is_pre_of : Fields → Bool
is_pre_of f = is_some f.pre || is_some f.dev

-- a post-release is a version with a post part
abbrev pub is_post_of : Fields → Bool
is_post_of f = is_some f.post

-- the same version without its local part
abbrev pub without_local : Fields → Fields
without_local f = record f { local = [] }

-- the version that has a release alone
abbrev pub plain : List ℕ → Fields
plain numbers = record { epoch = 0; release = numbers; pre = None; post = None; dev = None; local = [] }

-- the version of these parts, without a local part
abbrev pub public_fields : ℕ → List ℕ → Option Pre → Option ℕ → Option ℕ → Fields
public_fields epoch release pre post dev =
    record { epoch = epoch; release = release; pre = pre; post = post; dev = dev; local = [] }

-- a version that is greater than this one: one more number in its local part
abbrev pub version_above : Fields → Fields
version_above f = record f { local = f.local ++ Number 0 ∷ [] }
