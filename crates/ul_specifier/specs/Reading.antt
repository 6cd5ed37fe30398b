-- The texts of version specifiers (PEP 440, "Version specifiers"):
--     list   = [clause *("," clause) [","]]
--     clause = operator version [".*"]
-- Space and tab may stand around clauses and between an operator and its version, and white space of any
-- kind at the ends of the text. A comma after the last clause and `.*` with `>=` and `<` are beyond PEP 440.
use Rattle.std.specs.Prelude.{ℕ, ◌==◌, ◌&&◌, ◌||◌, Bool, true, false, not, nat_lt, List, [], ◌∷◌, length, codes, Option, Some, None, if◌then◌else◌}
use Rattle.std.specs.Char.{is_ascii_alphanumeric}
use Rattle.std.specs.List.{list_all, slice_split}
use Rattle.ul_version.specs.Ascii.{text_between}
pub use Rattle.ul_version.specs.Ascii.{after_all, after_front, before_all, before_end, is_blank, unless_last}
use Rattle.ul_version.specs.Fields.{Fields}
use Rattle.ul_version.specs.Reading.{◌>>=◌, is_white, or_else, version_of}
use Rattle.ul_specifier.specs.Clauses.{ClauseFields, has_local, is_bare, is_compatible, is_equality, is_exclusion}
use Rattle.ul_specifier.specs.declared.clause.Op.{Op}
use Rattle.ul_specifier.specs.declared.clause.Op.TheVariants.{Equal, Unequal, AtLeast, AtMost, More, Less, Compatible, Distinct}

-- ---- white space

-- a text without the bytes at both ends that pass the test
abbrev pub trimmed_text : (ℕ → Bool) → List ℕ → List ℕ
trimmed_text test text = text_between test text

-- ---- operators

-- an operator, where its text stands in front, and the text after it
abbrev pub after_operator : List ℕ → Op → List ℕ → Option (Op × List ℕ)
after_operator word op text = after_front word text >>= λ rest. Some (op, rest)

-- the longest operator that stands in front, and the text after it
unfoldable pub operator : List ℕ → Option (Op × List ℕ)
operator text =
    or_else (after_operator (codes "==") Equal text)
    (or_else (after_operator (codes "!=") Unequal text)
    (or_else (after_operator (codes ">=") AtLeast text)
    (or_else (after_operator (codes "<=") AtMost text)
    (or_else (after_operator (codes "~=") Compatible text)
    (or_else (after_operator (codes ">") More text)
    (after_operator (codes "<") Less text))))))

-- ---- an operator and the text of its version

-- a byte of a version's text: a letter, a digit or one of `- _ . * + !`
abbrev pub is_version_byte : ℕ → Bool
is_version_byte b = is_ascii_alphanumeric b || (b == 45 || (b == 95 || (b == 46 || (b == 42 || (b == 43 || b == 33)))))

-- what `.*` says with an operator: with `==` and `!=` that the clause asks for the front of a release, with
-- `>=` and `<` nothing; it stands with no other
abbrev pub star_of : Op → Option Bool
star_of Equal = Some true
star_of Unequal = Some true
star_of AtLeast = Some false
star_of AtMost = None
star_of More = None
star_of Less = Some false
star_of Compatible = None
star_of Distinct = None

-- a version before `.*`, which has an epoch and a release alone
unfoldable pub star_clause : Op → Fields → Option ClauseFields
star_clause op V = star_of op >>= λ prefix. if is_bare V then Some (record { op = op; version = V; prefix = prefix }) else None

-- a version with a local part stands with `==` and `!=` alone, `~=` needs two release numbers, and no text has an
-- exclusion
abbrev pub may_stand : Op → Fields → Bool
may_stand op V =
    not (is_exclusion op) && ((is_equality op || not (has_local V)) && (not (is_compatible op) || nat_lt 1 (length V.release)))

-- a version without `.*`
unfoldable pub plain_clause : Op → Fields → Option ClauseFields
plain_clause op V = if may_stand op V then Some (record { op = op; version = V; prefix = false }) else None

-- the clause of a text, or of the text before `.*`
abbrev pub version_clause : Op → List ℕ → Option (List ℕ) → Option ClauseFields
version_clause op text None = version_of text >>= plain_clause op
version_clause op text (Some front) = version_of front >>= star_clause op

-- the clause of an operator and the text after it, which is a run of bytes of a version's text
unfoldable pub clause_after : Op → List ℕ → Option ClauseFields
clause_after op text = if list_all is_version_byte text then version_clause op text (before_end (codes ".*") text) else None

-- the clause of an operator and a text, which may have white space at its ends
unfoldable pub clause_with : Op → List ℕ → Option ClauseFields
clause_with op text = clause_after op (trimmed_text is_white text)

-- ---- lists

-- one clause of a list
unfoldable pub clause_of : List ℕ → Option ClauseFields
clause_of text = operator (trimmed_text is_blank text) >>= λ o. clause_after o.0 (after_all is_blank o.1)

-- the clauses of the pieces of a list
unfoldable pub clauses_of : List (List ℕ) → Option (List ClauseFields)
clauses_of [] = Some []
clauses_of (piece ∷ pieces) = clause_of piece >>= λ c. clauses_of pieces >>= λ cs. Some (c ∷ cs)

-- the byte between two clauses
abbrev pub is_comma : ℕ → Bool
is_comma b = b == 44

-- the pieces of a list between its commas, of which the last counts only if it isn't empty
abbrev pub list_pieces : List (List ℕ) → List (List ℕ)
list_pieces [] = []
list_pieces ([] ∷ []) = []
list_pieces ((b ∷ piece) ∷ []) = (b ∷ piece) ∷ []
list_pieces (piece ∷ next ∷ pieces) = piece ∷ list_pieces (next ∷ pieces)

-- the clauses that a text spells; the empty list is one without clauses
unfoldable pub specifiers_of : List ℕ → Option (List ClauseFields)
specifiers_of text = clauses_of (list_pieces (slice_split is_comma (trimmed_text is_white text)))
