-- The text of a tree: the marker that says what the tree says, in one spelling (PEP 508, "Environment Markers").
use Rattle.std.specs.Prelude.{ℕ, zero, suc, List, [], ◌∷◌, map, Bool, true, false, codes, if◌then◌else◌}
use Rattle.ul_comparison.specs.Atoms.{has_byte}
use Rattle.ul_comparison.specs.Printed as Printed
use Rattle.ul_comparison.specs.Printed.{bound, extra_is, text_is, atom_is}
use Rattle.ul_marker.specs.PrintedPaths.{paths_text}
use Rattle.ul_comparison.specs.declared.variable.Variable.{Variable}
use Rattle.ul_comparison.specs.declared.variable.Variable.TheVariants.{OsName, SysPlatform, PlatformMachine, PlatformPythonImplementation, PlatformRelease, PlatformSystem, PlatformVersion, ImplementationName}
use Rattle.ul_nodes.specs.Apply.{leaf_truth}
use Rattle.ul_tree.specs.Comparisons.{Comparison, at_least, below, equals, differs, path_comparisons}
use Rattle.ul_tree.specs.PathList.{Step, paths_to_true}
use Rattle.ul_tree.specs.Pieces.{major_of, minor_of, patch_of}
use Rattle.ul_nodes.specs.Plain.{Plain}
use Rattle.ul_tree.specs.Sample.{atom_of}

-- the text variable at a place among the eight
abbrev pub text_variable : ℕ → Variable
text_variable zero = OsName
text_variable (suc zero) = SysPlatform
text_variable (suc (suc zero)) = PlatformMachine
text_variable (suc (suc (suc zero))) = PlatformPythonImplementation
text_variable (suc (suc (suc (suc zero)))) = PlatformRelease
text_variable (suc (suc (suc (suc (suc zero))))) = PlatformSystem
text_variable (suc (suc (suc (suc (suc (suc zero)))))) = PlatformVersion
text_variable (suc (suc (suc (suc (suc (suc (suc n))))))) = ImplementationName

-- the comparison that says that a level has a key, or another: an extra, a text variable, or an opaque comparison,
-- which holds at its one key
abbrev pub key_comparison : Bool → List ℕ → List ℕ → Printed.Comparison
key_comparison equal [] key = extra_is key equal
key_comparison equal (suc (suc i) ∷ []) key = text_is (text_variable i) key equal
key_comparison equal (zero ∷ []) key = extra_is key equal
key_comparison equal (suc zero ∷ []) key = extra_is key equal
key_comparison equal (a ∷ b ∷ rest) key = atom_is (atom_of (a ∷ b ∷ rest)) equal

-- the comparison that is printed for one of a path
abbrev pub printed_form : Comparison → Printed.Comparison
printed_form (at_least number) = bound true (major_of number) (minor_of number) (patch_of number)
printed_form (below number) = bound false (major_of number) (minor_of number) (patch_of number)
printed_form (equals level key) = key_comparison true level key
printed_form (differs level key) = key_comparison false level key

-- the comparisons that are printed for a path
abbrev pub printed_path : List Step → List Printed.Comparison
printed_path path = map printed_form (path_comparisons path)

-- those of a tree's paths to true
abbrev pub printed_paths : Plain → List (List Printed.Comparison)
printed_paths t = map printed_path (paths_to_true t)

-- the text of a tree: `*` where it is true everywhere; else its paths to true, joined by ` or `, each the comparisons
-- on it, joined by ` and `. The tree that is false everywhere has no text.
unfoldable pub marker_text : Plain → List ℕ
marker_text t = if leaf_truth t then codes "*" else paths_text (printed_paths t)

-- whether a byte stands in a text
abbrev pub has : ℕ → List ℕ → Bool
has byte text = has_byte byte text
