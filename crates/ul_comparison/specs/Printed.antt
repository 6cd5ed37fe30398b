-- Comparisons as they are printed: a variable, a sign and a literal in quotes, with one space on each side of the sign
-- (PEP 508, "Environment Markers").
use Rattle.std.specs.Prelude.{◌≡◌, ◌<◌, ◌^◌, ℕ, List, [], ◌∷◌, ◌++◌, Bool, true, false, codes, if◌then◌else◌}
use Rattle.std.specs.Fmt.{decimal}
use Rattle.ul_version.specs.Fields.{plain}
use Rattle.ul_specifier.specs.Clauses.{ClauseFields}
use Rattle.ul_specifier.specs.declared.clause.Op.{Op}
use Rattle.ul_specifier.specs.declared.clause.Op.TheVariants.{AtLeast, Less}
use Rattle.ul_comparison.specs.Atoms.{AtomFields, IsAtom, has_byte, is_literal, is_text}
use Rattle.ul_comparison.specs.Formulas.{Formula, IsExtraLiteral, extra, python, text, opaque}
use Rattle.ul_comparison.specs.declared.variable.AtomKind.{AtomKind}
use Rattle.ul_comparison.specs.declared.variable.AtomKind.TheVariants.{Contains, Within, Below, AtMost, Same}
use Rattle.ul_comparison.specs.declared.variable.Variable.{Variable}
use Rattle.ul_comparison.specs.declared.variable.Variable.TheVariants.{OsName, SysPlatform, PlatformMachine, PlatformPythonImplementation, PlatformRelease, PlatformSystem, PlatformVersion, PythonVersion, PythonFullVersion, ImplementationName, ImplementationVersion, Extras}

-- ---- literals and variables

-- the quote of a literal: `'`, or `"` where the literal holds `'`
abbrev pub quote_of : List ℕ → ℕ
quote_of literal = if has_byte 39 literal then 34 else 39

-- a literal between quotes
abbrev pub quoted_text : List ℕ → List ℕ
quoted_text literal = quote_of literal ∷ (literal ++ quote_of literal ∷ [])

-- the name of a variable
abbrev pub variable_name : Variable → List ℕ
variable_name OsName = codes "os_name"
variable_name SysPlatform = codes "sys_platform"
variable_name PlatformMachine = codes "platform_machine"
variable_name PlatformPythonImplementation = codes "platform_python_implementation"
variable_name PlatformRelease = codes "platform_release"
variable_name PlatformSystem = codes "platform_system"
variable_name PlatformVersion = codes "platform_version"
variable_name PythonVersion = codes "python_version"
variable_name PythonFullVersion = codes "python_full_version"
variable_name ImplementationName = codes "implementation_name"
variable_name ImplementationVersion = codes "implementation_version"
variable_name Extras = codes "extras"

-- an interpreter: its three numbers joined by points
unfoldable pub interpreter_text : ℕ → ℕ → ℕ → List ℕ
interpreter_text major minor patch = decimal major ++ (codes "." ++ (decimal minor ++ (codes "." ++ decimal patch)))

-- the same of a triple
abbrev pub triple_text : ℕ × ℕ × ℕ → List ℕ
triple_text triple = interpreter_text triple.0 triple.1 triple.2

-- ---- signs

-- `==`, or `!=`
abbrev pub equality_sign : Bool → List ℕ
equality_sign true = codes " == "
equality_sign false = codes " != "

-- `in`, or `not in`
abbrev pub in_sign : Bool → List ℕ
in_sign true = codes " in "
in_sign false = codes " not in "

-- `>=`, or `<`
abbrev pub bound_sign : Bool → List ℕ
bound_sign true = codes " >= "
bound_sign false = codes " < "

-- what stands between a variable and the literal of an opaque comparison that holds, or that fails
abbrev pub kind_sign : AtomKind → Bool → List ℕ
kind_sign Contains holds = in_sign holds
kind_sign Within holds = in_sign holds
kind_sign Below true = codes " < "
kind_sign Below false = codes " >= "
kind_sign AtMost true = codes " <= "
kind_sign AtMost false = codes " > "
kind_sign Same holds = equality_sign holds

-- ---- comparisons

-- two sides, of which the literal stands in front where the variable contains it
abbrev pub sides : AtomKind → List ℕ → List ℕ → List ℕ → List ℕ
sides Contains variable sign literal = literal ++ (sign ++ variable)
sides Within variable sign literal = variable ++ (sign ++ literal)
sides Below variable sign literal = variable ++ (sign ++ literal)
sides AtMost variable sign literal = variable ++ (sign ++ literal)
sides Same variable sign literal = variable ++ (sign ++ literal)

-- an opaque comparison that holds, or that fails
unfoldable pub atom_text : AtomFields → Bool → List ℕ
atom_text a holds = sides a.kind (variable_name a.variable) (kind_sign a.kind holds) (quoted_text a.literal)

-- a comparison that is printed: the interpreter is at least one, or below one; the extra, or a text variable, equals a
-- literal, or doesn't; an opaque comparison holds, or fails
pub data Comparison : Type 0 where
  bound : Bool → ℕ → ℕ → ℕ → Comparison
  extra_is : List ℕ → Bool → Comparison
  text_is : Variable → List ℕ → Bool → Comparison
  atom_is : AtomFields → Bool → Comparison

-- its text
unfoldable pub comparison_text : Comparison → List ℕ
comparison_text (bound lower major minor patch) =
    variable_name PythonFullVersion ++ (bound_sign lower ++ quoted_text (interpreter_text major minor patch))
comparison_text (extra_is literal equal) = codes "extra" ++ (equality_sign equal ++ quoted_text literal)
comparison_text (text_is variable literal equal) = variable_name variable ++ (equality_sign equal ++ quoted_text literal)
comparison_text (atom_is atom holds) = atom_text atom holds

-- a text with a comparison written behind it
abbrev pub IsWritten : List ℕ → Comparison → List ℕ → Type 0
IsWritten before c after = after ≡ before ++ comparison_text c

-- a comparison that a marker can have
abbrev pub IsComparison : Comparison → Type 0
IsComparison (bound lower major minor patch) = (major < 2 ^ 32) × (minor < 2 ^ 32) × (patch < 2 ^ 32)
IsComparison (extra_is literal equal) = IsExtraLiteral literal
IsComparison (text_is variable literal equal) = (is_text variable ≡ true) × (is_literal literal ≡ true)
IsComparison (atom_is atom holds) = IsAtom atom

-- `>=`, or `<`
abbrev pub bound_op : Bool → Op
bound_op true = AtLeast
bound_op false = Less

-- a bound of the interpreter, as a clause
abbrev pub bound_clause : Bool → ℕ → ℕ → ℕ → ClauseFields
bound_clause lower major minor patch = record { op = bound_op lower; version = plain (major ∷ minor ∷ patch ∷ []); prefix = false }

-- what a comparison says
abbrev pub comparison_formula : Comparison → Formula
comparison_formula (bound lower major minor patch) = python true (bound_clause lower major minor patch)
comparison_formula (extra_is literal equal) = extra literal equal
comparison_formula (text_is variable literal equal) = text variable literal equal
comparison_formula (atom_is atom holds) = opaque atom holds
