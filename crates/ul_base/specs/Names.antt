-- Names of packages and of extras: the identifiers of PEP 508, in the normal form of PEP 503.
use Rattle.std.specs.Prelude.{◌≡◌, ℕ, ◌<◌, ◌-◌, ◌==◌, ◌&&◌, ◌||◌, List, [], ◌∷◌, ◌++◌, Bool, true, false, Option, Some, None, Result, Ok, Err, length, slice_index, if◌then◌else◌}
use Rattle.std.specs.declared.cmp.Ordering.{Ordering}
use Rattle.std.specs.Ordering.{nat_cmp}
use Rattle.std.specs.Cmp.Lexicographic.{slice_cmp}
use Rattle.std.specs.Char.{is_ascii_alphanumeric, is_ascii_digit, is_ascii_lowercase}
use Rattle.std.specs.Str.{str_to_ascii_lowercase}
use Rattle.std.specs.List.{list_all}
use Rattle.ul_base.specs.declared.name.NameFault.{NameFault}
use Rattle.ul_base.specs.declared.name.NameFault.TheVariants.{NoReading, NoMemory}

-- one of `-`, `.` and `_`
abbrev pub is_separator : ℕ → Bool
is_separator b = b == 45 || (b == 46 || b == 95)

-- a letter or a digit of ASCII, or a separator
abbrev pub is_name_byte : ℕ → Bool
is_name_byte b = is_ascii_alphanumeric b || is_separator b

-- the first byte and the last are letters or digits (0 stands for the byte that the empty text doesn't have)
abbrev pub has_ends : List ℕ → Bool
has_ends text = is_ascii_alphanumeric (slice_index text 0) && is_ascii_alphanumeric (slice_index text (length text - 1))

-- the text is a name: letters, digits and separators, beginning and ending with a letter or a digit
unfoldable pub is_name : List ℕ → Bool
is_name text = has_ends text && list_all is_name_byte text

-- the text begins with a separator
abbrev pub leads_with_separator : List ℕ → Bool
leads_with_separator [] = false
leads_with_separator (b ∷ bs) = is_separator b

-- each run of separators is one `-`: it stands for the last of the run, and nothing for the others
abbrev pub single_hyphens : List ℕ → List ℕ
single_hyphens [] = []
single_hyphens (b ∷ bs) =
    if is_separator b then (if leads_with_separator bs then single_hyphens bs else 45 ∷ single_hyphens bs) else b ∷ single_hyphens bs

-- each run of separators one `-`, and lower case
unfoldable pub normal_form : List ℕ → List ℕ
normal_form text = str_to_ascii_lowercase (single_hyphens text)

-- the name that a text is, in its normal form
unfoldable pub name_of : List ℕ → Option (List ℕ)
name_of text = if is_name text then Some (normal_form text) else None

-- a name in its normal form: it reads as itself
abbrev pub IsNormalName : List ℕ → Type 0
IsNormalName name = name_of name ≡ Some name

-- a digit, a lower-case letter or `-`
abbrev pub is_normal_byte : ℕ → Bool
is_normal_byte b = is_ascii_digit b || (is_ascii_lowercase b || b == 45)

-- digits, lower-case letters and `-`, and one of them at least
abbrev pub IsPlain : List ℕ → Type 0
IsPlain name = (0 < length name) × (list_all is_normal_byte name ≡ true)

-- a name that is greater than this one: a `0` behind it
unfoldable pub name_above : List ℕ → List ℕ
name_above name = name ++ 48 ∷ []

-- the order of names: their bytes, the first that differ deciding
abbrev pub name_cmp : List ℕ → List ℕ → Ordering
name_cmp = slice_cmp nat_cmp

-- the reading of a text: its name, or that it is none, want of memory aside
abbrev pub NameReading : List ℕ → Result (List ℕ) NameFault → Type 0
NameReading text (Ok name) = name_of text ≡ Some name
NameReading text (Err NoReading) = name_of text ≡ None
NameReading text (Err NoMemory) = Unit {0}

-- the text has bytes of names alone, and this is its normal form
abbrev pub IsFormOf : List ℕ → List ℕ → Type 0
IsFormOf text form = (list_all is_name_byte text ≡ true) × (form ≡ normal_form text)

-- the normal form of a text that a run of separators may stand before
abbrev pub form_behind : Bool → List ℕ → List ℕ
form_behind run text = normal_form (if run then 45 ∷ text else text)

-- a form that is written byte by byte: with this byte, what was written and the form of the rest, behind a run of
-- separators or not, stay the same text; a byte that stands in no name is refused
abbrev pub AddsByte : List ℕ → List ℕ → Bool → ℕ → Result Bool NameFault → Type 0
AddsByte before now run byte (Ok after) =
    (is_name_byte byte ≡ true)
    × ((rest : List ℕ) → now ++ form_behind after rest ≡ before ++ form_behind run (byte ∷ rest))
AddsByte before now run byte (Err NoReading) = is_name_byte byte ≡ false
AddsByte before now run byte (Err NoMemory) = Unit {0}
