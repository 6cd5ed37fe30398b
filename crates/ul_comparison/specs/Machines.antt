-- Machines: what an interpreter says of itself, and the truth of opaque comparisons on it (PEP 508, "Environment
-- Markers").
use Rattle.std.specs.Prelude.{◌≡◌, ◌<◌, ◌^◌, ◌==◌, ◌&&◌, ◌||◌, ◌++◌, ℕ, Bool, true, false, not, List, [], ◌∷◌, codes, Option, Some, None, length, slice_index_or, if◌then◌else◌}
use Rattle.std.specs.Cmp.Lexicographic.{slice_cmp}
use Rattle.std.specs.Fmt.{decimal}
use Rattle.std.specs.Ordering.{nat_cmp, is_eq, is_le, is_lt, match_ordering}
use Rattle.std.specs.declared.cmp.Ordering.{Ordering}
use Rattle.ul_version.specs.Fields.{Fields}
use Rattle.ul_version.specs.Order.{version_cmp}
use Rattle.ul_version.specs.Reading.{version_of}
use Rattle.ul_comparison.specs.Atoms.{AtomFields, atom_cmp, is_extras, is_implementation_version, text_number}
use Rattle.ul_comparison.specs.Truth.{is_empty}
use Rattle.ul_comparison.specs.Worlds.{WorldFields}
use Rattle.ul_comparison.specs.declared.variable.AtomKind.{AtomKind}
use Rattle.ul_comparison.specs.declared.variable.AtomKind.TheVariants.{Contains, Within, Below, AtMost, Same}
use Rattle.ul_comparison.specs.declared.variable.Variable.{Variable}
use Rattle.ul_comparison.specs.declared.variable.Variable.TheVariants.{PythonVersion, PythonFullVersion, ImplementationVersion}

-- the interpreter's three numbers, eight texts in the order of the text variables, and `implementation_version`
pub record MachineFields : Type 0 where
  pub major : ℕ
  pub minor : ℕ
  pub patch : ℕ
  pub texts : List (List ℕ)
  pub implementation : List ℕ

-- the machine of these
abbrev pub machine_fields : ℕ × ℕ × ℕ → List (List ℕ) → List ℕ → MachineFields
machine_fields python texts implementation =
    record { major = python.0; minor = python.1; patch = python.2; texts = texts; implementation = implementation }

-- a machine: numbers below 2^32 and eight texts
pub record IsMachine (m : MachineFields) : Type 0 where
  pub major : m.major < 2 ^ 32
  pub minor : m.minor < 2 ^ 32
  pub patch : m.patch < 2 ^ 32
  pub texts : length m.texts ≡ 8

-- ---- the texts of variables

-- a number, a point and a text
abbrev pub before_point : ℕ → List ℕ → List ℕ
before_point n text = decimal n ++ (codes "." ++ text)

-- the text of a variable on a machine; those of Python's versions are its numbers joined by points
abbrev pub machine_text : MachineFields → Variable → List ℕ
machine_text m PythonVersion = before_point m.major (decimal m.minor)
machine_text m PythonFullVersion = before_point m.major (before_point m.minor (decimal m.patch))
machine_text m ImplementationVersion = m.implementation
machine_text m variable = slice_index_or m.texts (text_number variable) []

-- ---- the truth of comparisons

-- a text stands in front of another
abbrev pub begins_with : List ℕ → List ℕ → Bool
begins_with [] text = true
begins_with (p ∷ piece) [] = false
begins_with (p ∷ piece) (b ∷ rest) = b == p && begins_with piece rest

-- a text stands somewhere in another
unfoldable pub is_part : List ℕ → List ℕ → Bool
is_part piece [] = is_empty piece
is_part piece (b ∷ rest) = begins_with piece (b ∷ rest) || is_part piece rest

-- the order of two texts: of the versions that they spell, where both spell one, and else of their bytes
abbrev pub version_or_text_cmp : Option Fields → Option Fields → List ℕ → List ℕ → Ordering
version_or_text_cmp (Some v) (Some w) text literal = version_cmp v w
version_or_text_cmp (Some v) None text literal = slice_cmp nat_cmp text literal
version_or_text_cmp None w text literal = slice_cmp nat_cmp text literal

-- the order of a variable's text and a literal, which is that of bytes but for `implementation_version`
unfoldable pub literal_cmp : Variable → List ℕ → List ℕ → Ordering
literal_cmp variable text literal =
    if is_implementation_version variable then version_or_text_cmp (version_of text) (version_of literal) text literal
    else slice_cmp nat_cmp text literal

-- whether a comparison of a variable's text with a literal holds
abbrev pub compares : AtomKind → Variable → List ℕ → List ℕ → Bool
compares Contains variable text literal = is_part literal text
compares Within variable text literal = is_part text literal
compares Below variable text literal = is_lt (literal_cmp variable text literal)
compares AtMost variable text literal = is_le (literal_cmp variable text literal)
compares Same variable text literal = is_eq (literal_cmp variable text literal)

-- whether an opaque comparison holds on a machine, which chooses no extras by itself
unfoldable pub atom_holds : MachineFields → AtomFields → Bool
atom_holds m a = not (is_extras a.variable) && compares a.kind a.variable (machine_text m a.variable) a.literal

-- ---- the world of a machine

-- an atom put among atoms that increase, where it isn't there yet
unfoldable pub put_atom : AtomFields → List AtomFields → List AtomFields
put_atom a [] = a ∷ []
put_atom a (b ∷ rest) = match_ordering (atom_cmp a b) (a ∷ b ∷ rest) (b ∷ rest) (b ∷ put_atom a rest)

-- atoms that increase, with one more where it holds on a machine
abbrev pub with_truth : MachineFields → List AtomFields → AtomFields → List AtomFields
with_truth m truths a = if atom_holds m a then put_atom a truths else truths

-- those of the atoms that hold on a machine, put among others that increase
unfoldable pub truths_onto : MachineFields → List AtomFields → List AtomFields → List AtomFields
truths_onto m truths [] = truths
truths_onto m truths (a ∷ rest) = truths_onto m (with_truth m truths a) rest

-- the world of a machine, with the truth of the atoms
abbrev pub world_of : MachineFields → List AtomFields → WorldFields
world_of m atoms =
    record { major = m.major; minor = m.minor; patch = m.patch; texts = m.texts; truths = truths_onto m [] atoms }
