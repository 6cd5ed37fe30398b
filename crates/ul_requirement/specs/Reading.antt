-- What the texts of requirements are read as (PEP 508, "Grammar"):
--     requirement = name ["[" [name *("," name)] "]"] [specifiers | "(" specifiers ")"] [";" marker]
-- Space and tab may stand between all parts, and white space of any kind at the ends of the text. Empty
-- parentheses are beyond PEP 508. Where `@` follows the name or the extras, the requirement is one by a URL:
--     address = name ["[" [name *("," name)] "]"] "@" url [blank ";" marker]
use Rattle.std.specs.Prelude.{◌≡◌, ℕ, ◌==◌, ◌&&◌, ◌||◌, nat_le, nat_lt, Bool, List, [], ◌∷◌, fold, take, drop, codes, Option, Some, None, if◌then◌else◌}
use Rattle.std.specs.BTreeSet.{insert_key}
use Rattle.std.specs.List.{list_all, slice_split}
use Rattle.ul_base.specs.Names.{is_name_byte, name_cmp, name_of}
use Rattle.ul_version.specs.Ascii.{after_all, at_sign, before_end, begins, comma, is_blank, is_white, left_bracket, left_parenthesis, right_bracket, run_length, semicolon, space, tab, text_between, tilde}
use Rattle.ul_version.specs.Reading.{◌>>=◌}
use Rattle.ul_specifier.specs.Clauses.{ClauseFields}
use Rattle.ul_specifier.specs.Reading.{specifiers_of}
use Rattle.ul_comparison.specs.Formulas.{Formula}
use Rattle.ul_marker.specs.Reading.{marker_of}
use Rattle.ul_requirement.specs.Fields.{RequirementFields}

-- what a text is read as: a requirement; one by a URL, with what it requires where its text has the form of an address;
-- or nothing
pub data Reading : Type 0 where
  requirement : RequirementFields → Reading
  by_url : Option RequirementFields → Reading
  unread : Reading

-- ---- the name

-- the longest run of bytes of a name in front
abbrev pub name_text : List ℕ → List ℕ
name_text text = take (run_length is_name_byte text) text

-- the text after that run
abbrev pub after_name : List ℕ → List ℕ
after_name text = drop (run_length is_name_byte text) text

-- ---- the extras

-- what stands before the first such byte and what after it, where there is one
abbrev pub cut_at : ℕ → List ℕ → Option (List ℕ × List ℕ)
cut_at byte [] = None
cut_at byte (b ∷ text) = if b == byte then Some ([], text) else (cut_at byte text >>= λ p. Some (b ∷ p.0, p.1))

-- a name for each piece
unfoldable pub names_of : List (List ℕ) → Option (List (List ℕ))
names_of [] = Some []
names_of (piece ∷ pieces) = name_of (text_between is_blank piece) >>= λ n. names_of pieces >>= λ ns. Some (n ∷ ns)

-- names in their order, each once
abbrev pub name_set : List (List ℕ) → List (List ℕ)
name_set = fold (insert_key name_cmp) []

-- the names between commas
abbrev pub names_in : List ℕ → Option (List (List ℕ))
names_in [] = Some []
names_in (b ∷ text) = names_of (slice_split (λ c. c == comma) (b ∷ text))

-- the extras between brackets
unfoldable pub extras_in : List ℕ → Option (List (List ℕ))
extras_in text = names_in (text_between is_blank text) >>= λ names. Some (name_set names)

-- the extras in front, of which there may be none, and the text after them
unfoldable pub extras_front : List ℕ → Option (List (List ℕ) × List ℕ)
extras_front [] = Some ([], [])
extras_front (b ∷ text) =
    if b == left_bracket then (cut_at right_bracket text >>= λ p. extras_in p.0 >>= λ extras. Some (extras, p.1))
    else Some ([], b ∷ text)

-- a name, extras, and the text behind them, which begins with no blank
pub record Front : Type 0 where
  pub name : List ℕ
  pub extras : List (List ℕ)
  pub rest : List ℕ

-- the name and the extras in front
unfoldable pub front_of : List ℕ → Option Front
front_of text =
    name_of (name_text text) >>= λ name.
    extras_front (after_all is_blank (after_name text)) >>= λ e.
    Some (record { name = name; extras = e.0; rest = after_all is_blank e.1 })

-- ---- specifiers and marker

-- a byte that may stand behind the extras: printable ASCII, or tab
abbrev pub is_inner_byte : ℕ → Bool
is_inner_byte b = (nat_le space b && nat_le b tilde) || b == tab

-- specifiers, which may stand in parentheses
unfoldable pub specifiers_in : List ℕ → Option (List ClauseFields)
specifiers_in [] = Some []
specifiers_in (b ∷ text) = if b == left_parenthesis then (before_end (codes ")") text >>= specifiers_of) else specifiers_of (b ∷ text)

-- a marker, where there is a text for one
unfoldable pub marker_in : Option (List ℕ) → Option (Option Formula)
marker_in None = Some None
marker_in (Some text) = marker_of text >>= λ m. Some (Some m)

-- a text that was cut, or the whole text where it was not
abbrev pub parts_at : List ℕ → Option (List ℕ × List ℕ) → List ℕ × Option (List ℕ)
parts_at text None = (text, None)
parts_at text (Some p) = (p.0, Some p.1)

-- the text before the first semicolon, and the text after it where there is one
abbrev pub parts_of : List ℕ → List ℕ × Option (List ℕ)
parts_of text = parts_at text (cut_at semicolon text)

-- the specifiers and the marker of two parts
abbrev pub parts_read : List ℕ × Option (List ℕ) → Option (List ClauseFields × Option Formula)
parts_read p = specifiers_in (text_between is_blank p.0) >>= λ s. marker_in p.1 >>= λ m. Some (s, m)

-- the specifiers and the marker that stand behind a name and its extras
unfoldable pub tail_of : List ℕ → Option (List ClauseFields × Option Formula)
tail_of text = if list_all is_inner_byte text then parts_read (parts_of text) else None

-- ---- a URL and a marker

-- a byte of a URL: printable ASCII, but no space
abbrev pub is_url_byte : ℕ → Bool
is_url_byte b = nat_lt space b && nat_le b tilde

-- the marker behind a URL and blanks: none where nothing follows, else that behind a semicolon
unfoldable pub marker_behind : List ℕ → Option (Option Formula)
marker_behind [] = Some None
marker_behind (b ∷ text) = if b == semicolon then marker_in (Some text) else None

-- the marker behind a URL, which is the longest run of its bytes; so a semicolon that begins a marker has a blank before it
unfoldable pub url_marker : List ℕ → Option (Option Formula)
url_marker text =
    if list_all is_inner_byte text && begins is_url_byte text then marker_behind (after_all is_blank (after_all is_url_byte text)) else None

-- the requirement by a URL of a name and extras: it has no specifiers
abbrev pub address_with : Front → Option Formula → RequirementFields
address_with f marker = record { name = f.name; extras = f.extras; specifiers = []; marker = marker }

-- the requirement by a URL of a name and extras, and of the text behind them, which begins with `@`
abbrev pub address_of : Front → Option RequirementFields
address_of f = url_marker (after_all is_blank (drop 1 f.rest)) >>= λ marker. Some (address_with f marker)

-- ---- the whole text

-- the text begins with `@`
abbrev pub is_address : List ℕ → Bool
is_address = begins (λ b. b == at_sign)

-- the requirement of a name and extras, and of the specifiers and the marker behind them
abbrev pub reading_with : Front → Option (List ClauseFields × Option Formula) → Reading
reading_with f None = unread
reading_with f (Some t) = requirement (record { name = f.name; extras = f.extras; specifiers = t.0; marker = t.1 })

-- what a text is read as by what stands in front
abbrev pub reading_behind : Option Front → Reading
reading_behind None = unread
reading_behind (Some f) = if is_address f.rest then by_url (address_of f) else reading_with f (tail_of f.rest)

-- what a text is read as
unfoldable pub reading_of : List ℕ → Reading
reading_of text = reading_behind (front_of (text_between is_white text))

-- the requirement of a reading
abbrev pub read_requirement : Reading → Option RequirementFields
read_requirement (requirement q) = Some q
read_requirement (by_url q) = None
read_requirement unread = None

-- the requirement of a reading by a URL
abbrev pub read_address : Reading → Option RequirementFields
read_address (requirement q) = None
read_address (by_url q) = q
read_address unread = None

-- the reading is one by a URL, whatever stands behind the `@`
abbrev pub IsByUrl : Reading → Type 0
IsByUrl reading = (q : Option RequirementFields) × (reading ≡ by_url q)

-- the requirement that a text spells
abbrev pub requirement_of : List ℕ → Option RequirementFields
requirement_of text = read_requirement (reading_of text)
