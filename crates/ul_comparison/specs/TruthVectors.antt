-- Worked examples: the truth of formulas at three worlds (PEP 508, "Environment Markers"), and which texts stand beside
-- `extras` (PEP 751).
use Rattle.std.specs.Prelude.{◌≡◌, ℕ, Bool, true, false, List, [], ◌∷◌, codes}
use Rattle.ul_version.specs.Fields.{plain}
use Rattle.ul_specifier.specs.Clauses.{ClauseFields}
use Rattle.ul_specifier.specs.declared.clause.Op.{Op}
use Rattle.ul_specifier.specs.declared.clause.Op.TheVariants.{Equal, AtLeast}
use Rattle.ul_comparison.specs.Atoms.{AtomFields, may_stand}
use Rattle.ul_comparison.specs.Formulas.{Formula, extra, python, python_list, text, opaque, all, any, Formulas, none, more}
use Rattle.ul_comparison.specs.Truth.{marker_holds}
use Rattle.ul_comparison.specs.Worlds.{WorldFields}
use Rattle.ul_comparison.specs.declared.variable.AtomKind.TheVariants.{Contains, Within, Below, Same}
use Rattle.ul_comparison.specs.declared.variable.Variable.TheVariants.{OsName, SysPlatform, PlatformSystem, ImplementationName, ImplementationVersion, Extras}

-- the texts of a machine, in the order of the text variables
abbrev pub linux : List (List ℕ)
linux =
    codes "posix" ∷ codes "linux" ∷ codes "x86_64" ∷ codes "CPython" ∷ codes "6.1.0" ∷ codes "Linux" ∷ codes "#1 SMP" ∷ codes "cpython" ∷ []

-- `'inu' in sys_platform`
abbrev pub has_inu : AtomFields
has_inu = record { variable = SysPlatform; kind = Contains; literal = codes "inu" }

-- `implementation_version == '3.8.5'`
abbrev pub same_version : AtomFields
same_version = record { variable = ImplementationVersion; kind = Same; literal = codes "3.8.5" }

-- `os_name < 'z'`
abbrev pub below_z : AtomFields
below_z = record { variable = OsName; kind = Below; literal = codes "z" }

-- Python 3.8.5 on that machine, where the first two of these hold
abbrev pub machine : WorldFields
machine = record { major = 3; minor = 8; patch = 5; texts = linux; truths = has_inu ∷ same_version ∷ [] }

-- the same with Python 3.10.0, where no opaque comparison holds
abbrev pub later : WorldFields
later = record { major = 3; minor = 10; patch = 0; texts = linux; truths = [] }

-- a clause of a version with a release alone
abbrev pub clause_of : Op → List ℕ → Bool → ClauseFields
clause_of op release prefix = record { op = op; version = plain release; prefix = prefix }

-- 3.8
abbrev pub three_eight : List ℕ
three_eight = 3 ∷ 8 ∷ []

-- two formulas
abbrev pub both : Formula → Formula → Formulas
both f g = more f (more g none)

-- truths of formulas at worlds and extras
pub record Truths : Type 0 where
  pub extra_equal : marker_holds (extra (codes "test") true) machine (codes "test") ≡ true
  pub extra_other : marker_holds (extra (codes "test") true) machine (codes "docs") ≡ false
  pub extra_unequal : marker_holds (extra (codes "test") false) machine [] ≡ true
  pub empty_literal : marker_holds (extra [] true) machine [] ≡ true
  pub literal_that_is_no_name : marker_holds (extra (codes "a b") true) machine (codes "a b") ≡ false
  pub unequal_to_no_name : marker_holds (extra (codes "-") false) machine (codes "-") ≡ true
  pub version_of_two_numbers : marker_holds (python false (clause_of Equal three_eight false)) machine [] ≡ true
  pub version_of_three_numbers : marker_holds (python true (clause_of Equal three_eight false)) machine [] ≡ false
  pub front_of_three_numbers : marker_holds (python true (clause_of Equal three_eight true)) machine [] ≡ true
  pub versions_as_numbers : marker_holds (python false (clause_of AtLeast three_eight false)) later [] ≡ true
  pub version_of_list : marker_holds (python_list false (plain (2 ∷ 7 ∷ []) ∷ plain (3 ∷ 8 ∷ 0 ∷ []) ∷ []) true) machine [] ≡ true
  pub patch_of_no_list : marker_holds (python_list true (plain (2 ∷ 7 ∷ []) ∷ plain (3 ∷ 8 ∷ 0 ∷ []) ∷ []) true) machine [] ≡ false
  pub empty_list : marker_holds (python_list false [] true) machine [] ≡ false
  pub outside_empty_list : marker_holds (python_list false [] false) machine [] ≡ true
  pub text_equal : marker_holds (text SysPlatform (codes "linux") true) machine [] ≡ true
  pub text_in_other_case : marker_holds (text PlatformSystem (codes "linux") true) machine [] ≡ false
  pub last_text_unequal : marker_holds (text ImplementationName (codes "pypy") false) machine [] ≡ true
  pub opaque_that_holds : marker_holds (opaque has_inu true) machine [] ≡ true
  pub opaque_that_fails : marker_holds (opaque has_inu true) later [] ≡ false
  pub opaque_that_is_negated : marker_holds (opaque below_z false) machine [] ≡ true
  pub opaque_of_other_kind : marker_holds (opaque (record has_inu { kind = Within }) true) machine [] ≡ false
  pub opaque_of_a_version : marker_holds (opaque same_version true) machine [] ≡ true
  pub normal_beside_extras : may_stand Extras (codes "dev-tools") ≡ true
  pub capital_beside_extras : may_stand Extras (codes "Dev") ≡ false
  pub dot_beside_extras : may_stand Extras (codes "dev.tools") ≡ false
  pub two_hyphens_beside_extras : may_stand Extras (codes "dev--tools") ≡ false
  pub nothing_beside_extras : may_stand Extras [] ≡ false
  pub all_of_two : marker_holds (all (both (extra [] true) (opaque has_inu true))) later [] ≡ false
  pub all_of_none : marker_holds (all none) later [] ≡ true
  pub any_of_two : marker_holds (any (both (opaque has_inu true) (extra [] true))) later [] ≡ true
  pub any_of_none : marker_holds (any none) later [] ≡ false
