-- The truth of a marker at a world with an extra, which may be empty (PEP 508, "Environment Markers").
--
-- Where PEP 508 compares texts by PEP 440 if both sides are versions, text variables are compared as texts
-- here; and `in` with a Python variable on the left asks for a version of a list.
use Rattle.std.specs.Prelude.{ℕ, ◌&&◌, ◌||◌, Bool, true, false, not, List, [], ◌∷◌, slice_index}
use Rattle.std.specs.List.{list_any}
use Rattle.std.specs.Str.{bytes_eq}
use Rattle.ul_base.specs.Names.{is_name}
use Rattle.ul_version.specs.Fields.{Fields, plain}
use Rattle.ul_specifier.specs.Clauses.{ClauseFields}
use Rattle.ul_specifier.specs.Meaning.{meets_clause}
use Rattle.ul_specifier.specs.declared.clause.Op.TheVariants.{Equal}
use Rattle.ul_comparison.specs.Atoms.{has_atom}
use Rattle.ul_comparison.specs.Formulas.{Formula, extra, python, python_list, text, opaque, all, any, Formulas, none, more}
use Rattle.ul_comparison.specs.Worlds.{WorldFields, text_at}

-- a comparison that is asked for, or whose negation is
abbrev pub as_asked : Bool → Bool → Bool
as_asked true holds = holds
as_asked false holds = not holds

-- whether a text is empty
abbrev pub is_empty : List ℕ → Bool
is_empty [] = true
is_empty (b ∷ bs) = false

-- an extra equals a literal that is empty or a name; any other literal equals no extra
abbrev pub equals_extra : List ℕ → List ℕ → Bool
equals_extra literal x = (is_empty literal || is_name literal) && bytes_eq literal x

-- of an interpreter's three numbers, those that `python_full_version` or `python_version` has
abbrev pub python_numbers : Bool → ℕ → ℕ → ℕ → List ℕ
python_numbers true major minor patch = major ∷ minor ∷ patch ∷ []
python_numbers false major minor patch = major ∷ minor ∷ []

-- of an interpreter's numbers in a list, those that `python_full_version` or `python_version` has
abbrev pub numbers_in : Bool → List ℕ → List ℕ
numbers_in full numbers = python_numbers full (slice_index numbers 0) (slice_index numbers 1) (slice_index numbers 2)

-- the release that `python_full_version` or `python_version` is
abbrev pub python_release : Bool → WorldFields → List ℕ
python_release full w = python_numbers full w.major w.minor w.patch

-- the clause `==V`
abbrev pub equal_to : Fields → ClauseFields
equal_to V = record { op = Equal; version = V; prefix = false }

-- whether a version with a release alone is in a list of versions, by `==`
abbrev pub is_listed : List Fields → List ℕ → Bool
is_listed versions release = list_any (λ V. meets_clause (equal_to V) (plain release)) versions

-- the truth of a formula
abbrev mutual
  pub marker_holds : Formula → WorldFields → List ℕ → Bool
  marker_holds (extra literal equal) w x = as_asked equal (equals_extra literal x)
  marker_holds (python full clause) w x = meets_clause clause (plain (python_release full w))
  marker_holds (python_list full versions within) w x = as_asked within (is_listed versions (python_release full w))
  marker_holds (text variable literal equal) w x = as_asked equal (bytes_eq (text_at w variable) literal)
  marker_holds (opaque atom positive) w x = as_asked positive (has_atom w.truths atom)
  marker_holds (all fs) w x = all_hold fs w x
  marker_holds (any fs) w x = any_holds fs w x

  pub all_hold : Formulas → WorldFields → List ℕ → Bool
  all_hold none w x = true
  all_hold (more f fs) w x = marker_holds f w x && all_hold fs w x

  pub any_holds : Formulas → WorldFields → List ℕ → Bool
  any_holds none w x = false
  any_holds (more f fs) w x = marker_holds f w x || any_holds fs w x
