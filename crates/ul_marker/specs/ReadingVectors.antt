-- Worked examples: texts and the formulas that they spell, and texts without a reading.
use Rattle.std.specs.Prelude.{◌≡◌, ℕ, Bool, true, false, List, [], ◌∷◌, codes, Some, None}
use Rattle.ul_version.specs.Fields.{plain}
use Rattle.ul_specifier.specs.declared.clause.Op.{Op}
use Rattle.ul_specifier.specs.declared.clause.Op.TheVariants.{Equal, AtLeast, Less}
use Rattle.ul_marker.specs.Comparisons.{opaquely}
use Rattle.ul_comparison.specs.Formulas.{Formula, extra, python, python_list, text, all, any, formulas_of}
use Rattle.ul_marker.specs.Reading.{locked_marker_of, marker_of, printed_marker_of}
use Rattle.ul_comparison.specs.declared.variable.AtomKind.TheVariants.{Contains, Within, Below, AtMost, Same}
use Rattle.ul_comparison.specs.declared.variable.Variable.TheVariants.{OsName, SysPlatform, PlatformMachine, PlatformPythonImplementation, PlatformRelease, PlatformVersion, ImplementationVersion, Extras}

-- `python_version` or `python_full_version` against a version that has a release alone
abbrev pub python_at : Bool → Op → List ℕ → Formula
python_at full op release = python full (record { op = op; version = plain release; prefix = false })

-- 3.8
abbrev pub three_eight : List ℕ
three_eight = 3 ∷ 8 ∷ []

-- os_name == 'a'
abbrev pub os_a : Formula
os_a = text OsName (codes "a") true

-- os_name == 'b'
abbrev pub os_b : Formula
os_b = text OsName (codes "b") true

-- texts and their formulas
pub record Readings : Type 0 where
  pub windows : marker_of (codes "sys_platform == 'win32' and python_version < \"3.8\"")
      ≡ Some (all (formulas_of (text SysPlatform (codes "win32") true ∷ python_at false Less three_eight ∷ [])))
  pub full_version : marker_of (codes "\n python_full_version>='3.8'\r\n") ≡ Some (python_at true AtLeast three_eight)
  pub version_blanks : marker_of (codes "python_version\t== ' 3.8 '") ≡ Some (python_at false Equal three_eight)
  pub mirrored_version : marker_of (codes "'3.8' > python_version") ≡ Some (python_at false Less three_eight)
  pub mirrored_text : marker_of (codes "'a' == os_name") ≡ Some os_a
  pub old_name : marker_of (codes "os.name != 'nt'") ≡ Some (text OsName (codes "nt") false)
  pub old_implementation : marker_of (codes "python_implementation == 'CPython'") ≡ Some (text PlatformPythonImplementation (codes "CPython") true)
  pub within : marker_of (codes "platform_machine in 'x86_64 aarch64'") ≡ Some (opaquely PlatformMachine Within (codes "x86_64 aarch64") true)
  pub not_contained : marker_of (codes "'linux' not  in sys_platform") ≡ Some (opaquely SysPlatform Contains (codes "linux") false)
  pub list : marker_of (codes "python_version not in '3.8,  3.8.0'")
      ≡ Some (python_list false (plain three_eight ∷ plain (3 ∷ 8 ∷ 0 ∷ []) ∷ []) false)
  pub empty_list : marker_of (codes "python_full_version in ' , '") ≡ Some (python_list true [] true)
  pub below : marker_of (codes "platform_release >= '5'") ≡ Some (opaquely PlatformRelease Below (codes "5") false)
  pub at_most : marker_of (codes "'5' >= platform_version") ≡ Some (opaquely PlatformVersion AtMost (codes "5") true)
  pub same : marker_of (codes "implementation_version != '7.3'") ≡ Some (opaquely ImplementationVersion Same (codes "7.3") false)
  pub normal_extra : marker_of (codes "extra == 'Foo_Bar'") ≡ Some (extra (codes "foo-bar") true)
  pub extra_no_name : marker_of (codes "\"!!\" != extra") ≡ Some (extra (codes "!!") false)
  pub quotes : marker_of (codes "os_name == \"it's\"") ≡ Some (text OsName (codes "it's") true)
  pub quote_ends : marker_of (codes "os_name == 'a'or os_name == 'b'") ≡ Some (any (formulas_of (os_a ∷ os_b ∷ [])))
  pub and_first : marker_of (codes "os_name=='a' or os_name=='b' and os_name=='a'") ≡ Some (any (formulas_of (os_a ∷ all (formulas_of (os_b ∷ os_a ∷ [])) ∷ [])))
  pub parentheses : marker_of (codes "((os_name=='a')or(os_name=='b'))and os_name=='a'") ≡ Some (all (formulas_of (any (formulas_of (os_a ∷ os_b ∷ [])) ∷ os_a ∷ [])))

-- texts of locks and printed texts, and their formulas
pub record LockedReadings : Type 0 where
  pub chosen : locked_marker_of (codes "'x' in extras") ≡ Some (opaquely Extras Contains (codes "x") true)
  pub not_chosen : locked_marker_of (codes "\"dev-tools\" not in extras") ≡ Some (opaquely Extras Contains (codes "dev-tools") false)
  pub beside_others : locked_marker_of (codes "'x' in extras and os_name == 'a'") ≡ Some (all (formulas_of (opaquely Extras Contains (codes "x") true ∷ os_a ∷ [])))
  pub no_normal_name : locked_marker_of (codes "'X' in extras") ≡ None
  pub no_name : locked_marker_of (codes "'' in extras") ≡ None
  pub extras_on_the_left : locked_marker_of (codes "extras in 'x'") ≡ None
  pub extras_equal : locked_marker_of (codes "extras == 'x'") ≡ None
  pub mirrored_extras : locked_marker_of (codes "'x' <= extras") ≡ None
  pub extra_in_a_lock : locked_marker_of (codes "extra == 'x'") ≡ None
  pub extra_beside : locked_marker_of (codes "os_name == 'a' or extra == 'x'") ≡ None
  pub both_printed : printed_marker_of (codes "extra == 'x' or 'x' in extras") ≡ Some (any (formulas_of (extra (codes "x") true ∷ opaquely Extras Contains (codes "x") true ∷ [])))

-- texts without a reading
pub record NoReadings : Type 0 where
  pub empty : marker_of [] ≡ None
  pub no_marker : marker_of (codes "()") ≡ None
  pub two_variables : marker_of (codes "os_name == sys_platform") ≡ None
  pub two_literals : marker_of (codes "'a' == 'b'") ≡ None
  pub compatible_text : marker_of (codes "os_name ~= 'a'") ≡ None
  pub mirrored_compatible : marker_of (codes "'3.8' ~= python_version") ≡ None
  pub extra_within : marker_of (codes "extra in 'a'") ≡ None
  pub in_extra : marker_of (codes "'a' in extra") ≡ None
  pub in_extras : marker_of (codes "'a' in extras") ≡ None
  pub not_in_extras : marker_of (codes "os_name == 'a' or 'a' not in extras") ≡ None
  pub extra_order : marker_of (codes "extra < 'a'") ≡ None
  pub joined_words : marker_of (codes "os_nameor") ≡ None
  pub no_version : marker_of (codes "python_version < 'x'") ≡ None
  pub no_listed_version : marker_of (codes "python_version in '3.9, x'") ≡ None
  pub inner_line : marker_of (codes "os_name\n== 'a'") ≡ None
  pub upper_case : marker_of (codes "os_name == 'a' AND os_name == 'b'") ≡ None
  pub unknown_word : marker_of (codes "os == 'a'") ≡ None
  pub backslash : marker_of (codes "os_name == 'a\\'") ≡ None
  pub open_literal : marker_of (codes "os_name == 'a") ≡ None
  pub arbitrary : marker_of (codes "os_name === 'a'") ≡ None
  pub open_parenthesis : marker_of (codes "(os_name == 'a'") ≡ None
  pub closed_parenthesis : marker_of (codes "os_name == 'a')") ≡ None
  pub last_and : marker_of (codes "os_name == 'a' and") ≡ None
  pub not_alone : marker_of (codes "not os_name == 'a'") ≡ None
