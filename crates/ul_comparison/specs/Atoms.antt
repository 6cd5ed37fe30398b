-- Comparisons that a decision tree doesn't look into, and their order. Variables are those of PEP 508 ("Environment
-- Markers") and `extras` of PEP 751, the extras that are chosen.
use Rattle.std.specs.Prelude.{◌≡◌, ◌==◌, ◌&&◌, ◌||◌, ℕ, Bool, true, false, not, nat_le, List, ◌∷◌}
use Rattle.std.specs.Cmp.Lexicographic.{slice_cmp}
use Rattle.std.specs.List.{list_all, list_any}
use Rattle.std.specs.Ordering.{nat_cmp, is_eq}
use Rattle.std.specs.Str.{bytes_eq}
use Rattle.std.specs.declared.cmp.Ordering.{Ordering}
use Rattle.ul_base.specs.Names.{is_name, normal_form}
use Rattle.ul_comparison.specs.declared.variable.AtomKind.{AtomKind}
use Rattle.ul_comparison.specs.declared.variable.AtomKind.TheVariants.{Contains, Within, Below, AtMost, Same}
use Rattle.ul_comparison.specs.declared.variable.Variable.{Variable}
use Rattle.ul_comparison.specs.declared.variable.Variable.TheVariants.{OsName, SysPlatform, PlatformMachine, PlatformPythonImplementation, PlatformRelease, PlatformSystem, PlatformVersion, PythonVersion, PythonFullVersion, ImplementationName, ImplementationVersion, Extras}

-- ---- variables

-- the place of a variable in the order of variables
abbrev pub variable_number : Variable → ℕ
variable_number OsName = 0
variable_number SysPlatform = 1
variable_number PlatformMachine = 2
variable_number PlatformPythonImplementation = 3
variable_number PlatformRelease = 4
variable_number PlatformSystem = 5
variable_number PlatformVersion = 6
variable_number PythonVersion = 7
variable_number PythonFullVersion = 8
variable_number ImplementationName = 9
variable_number ImplementationVersion = 10
variable_number Extras = 11

-- the place of a text variable among the eight texts of a world, and 8 for the other variables
abbrev pub text_number : Variable → ℕ
text_number OsName = 0
text_number SysPlatform = 1
text_number PlatformMachine = 2
text_number PlatformPythonImplementation = 3
text_number PlatformRelease = 4
text_number PlatformSystem = 5
text_number PlatformVersion = 6
text_number PythonVersion = 8
text_number PythonFullVersion = 8
text_number ImplementationName = 7
text_number ImplementationVersion = 8
text_number Extras = 8

-- whether a variable is one of the eight text variables
abbrev pub is_text : Variable → Bool
is_text OsName = true
is_text SysPlatform = true
is_text PlatformMachine = true
is_text PlatformPythonImplementation = true
is_text PlatformRelease = true
is_text PlatformSystem = true
is_text PlatformVersion = true
is_text PythonVersion = false
is_text PythonFullVersion = false
is_text ImplementationName = true
is_text ImplementationVersion = false
is_text Extras = false

-- whether a variable is `implementation_version`
abbrev pub is_implementation_version : Variable → Bool
is_implementation_version OsName = false
is_implementation_version SysPlatform = false
is_implementation_version PlatformMachine = false
is_implementation_version PlatformPythonImplementation = false
is_implementation_version PlatformRelease = false
is_implementation_version PlatformSystem = false
is_implementation_version PlatformVersion = false
is_implementation_version PythonVersion = false
is_implementation_version PythonFullVersion = false
is_implementation_version ImplementationName = false
is_implementation_version ImplementationVersion = true
is_implementation_version Extras = false

-- whether a variable is `extras`
abbrev pub is_extras : Variable → Bool
is_extras OsName = false
is_extras SysPlatform = false
is_extras PlatformMachine = false
is_extras PlatformPythonImplementation = false
is_extras PlatformRelease = false
is_extras PlatformSystem = false
is_extras PlatformVersion = false
is_extras PythonVersion = false
is_extras PythonFullVersion = false
is_extras ImplementationName = false
is_extras ImplementationVersion = false
is_extras Extras = true

-- ---- literals

-- a byte of a literal: printable ASCII without the backslash
abbrev pub is_literal_byte : ℕ → Bool
is_literal_byte b = nat_le 32 b && (nat_le b 126 && not (b == 92))

-- whether a byte stands in a text
abbrev pub has_byte : ℕ → List ℕ → Bool
has_byte q text = list_any (λ b. b == q) text

-- the text of a literal: such bytes, and not both quotes, since the literal's own quote can't stand in it
abbrev pub is_literal : List ℕ → Bool
is_literal text = list_all is_literal_byte text && not (has_byte 39 text && has_byte 34 text)

-- whether a text is a name in its normal form (PEP 503, and PEP 685 for extras)
unfoldable pub is_normal_name : List ℕ → Bool
is_normal_name text = is_name text && bytes_eq (normal_form text) text

-- which literal stands beside which variable: beside `extras` the name of an extra in its normal form
abbrev pub may_stand : Variable → List ℕ → Bool
may_stand variable literal = not (is_extras variable) || is_normal_name literal

-- ---- atoms

-- a variable, how it is compared, and with what
pub record AtomFields : Type 0 where
  pub variable : Variable
  pub kind : AtomKind
  pub literal : List ℕ

-- the atom of these
abbrev pub atom_fields : Variable → AtomKind → List ℕ → AtomFields
atom_fields variable kind literal = record { variable = variable; kind = kind; literal = literal }

-- the place of a kind in the order of kinds
abbrev pub kind_number : AtomKind → ℕ
kind_number Contains = 0
kind_number Within = 1
kind_number Below = 2
kind_number AtMost = 3
kind_number Same = 4

-- which kind stands with which variable: with `extras` that it contains the literal alone
abbrev pub may_compare : AtomKind → Variable → Bool
may_compare Contains v = true
may_compare Within v = is_text v || is_implementation_version v
may_compare Below v = is_text v || is_implementation_version v
may_compare AtMost v = is_text v || is_implementation_version v
may_compare Same v = is_implementation_version v

-- an atom that a marker's text can spell
pub record IsAtom (a : AtomFields) : Type 0 where
  pub literal : is_literal a.literal ≡ true
  pub kind : may_compare a.kind a.variable ≡ true
  pub stands : may_stand a.variable a.literal ≡ true

-- what orders atoms: the variable, then the kind, then the literal's bytes
abbrev pub atom_key : AtomFields → List ℕ
atom_key a = variable_number a.variable ∷ kind_number a.kind ∷ a.literal

-- the order of atoms
abbrev pub atom_cmp : AtomFields → AtomFields → Ordering
atom_cmp a b = slice_cmp nat_cmp (atom_key a) (atom_key b)

-- whether an atom is in a list
abbrev pub has_atom : List AtomFields → AtomFields → Bool
has_atom atoms a = list_any (λ b. is_eq (atom_cmp b a)) atoms
