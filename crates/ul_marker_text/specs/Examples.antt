-- Worked examples of texts.
use Rattle.std.specs.Prelude.{◌≡◌, ℕ, List, [], ◌∷◌, codes, true, false}
use Rattle.ul_comparison.specs.Atoms.{AtomFields, atom_fields}
use Rattle.ul_comparison.specs.declared.variable.AtomKind.TheVariants.{Contains, Below, Same}
use Rattle.ul_comparison.specs.declared.variable.Variable.TheVariants.{OsName, SysPlatform, PlatformRelease, PythonVersion, ImplementationVersion, Extras}
use Rattle.ul_nodes.specs.Plain.{Plain, truth, node, done, branch}
use Rattle.ul_nodes.specs.Levels.{extra_level, python_level, text_level, atom_level}
use Rattle.ul_tree.specs.Pieces.{packed_number}
use Rattle.ul_marker_text.specs.MarkerText.{marker_text}

-- the key of an interpreter
abbrev pub at : ℕ → ℕ → ℕ → List ℕ
at major minor patch = packed_number major minor patch ∷ []

-- from one interpreter on
abbrev pub from_3_8 : Plain
from_3_8 = node python_level (truth false) (branch (at 3 8 0) (truth true) done)

-- between two interpreters
abbrev pub from_3_9_below_3_11 : Plain
from_3_9_below_3_11 = node python_level (truth false) (branch (at 3 9 0) (truth true) (branch (at 3 11 0) (truth false) done))

-- outside of a piece
abbrev pub but_3_9 : Plain
but_3_9 = node python_level (truth true) (branch (at 3 9 0) (truth false) (branch (at 3 10 0) (truth true) done))

-- a release before another
abbrev pub older : AtomFields
older = atom_fields PlatformRelease Below (codes "it's")

-- a version of Python that holds a text
abbrev pub holding : AtomFields
holding = atom_fields PythonVersion Contains (codes "3")

-- one version of an implementation
abbrev pub first_one : AtomFields
first_one = atom_fields ImplementationVersion Same (codes "1")

-- an extra that is chosen
abbrev pub chosen : AtomFields
chosen = atom_fields Extras Contains (codes "x")

-- a truth where an opaque comparison holds, and another where it fails
abbrev pub opaque_node : AtomFields → Plain → Plain → Plain
opaque_node atom holds fails = node (atom_level atom) fails (branch (1 ∷ []) holds done)

-- points beside another part
abbrev pub of_systems : Plain
of_systems = node (text_level OsName) (opaque_node older (truth true) (truth false)) (branch (codes "nt") (truth true) (branch (codes "posix") (truth false) done))

-- an extra above an opaque comparison that fails
abbrev pub of_extra : Plain
of_extra = node extra_level (truth false) (branch (codes "x") (opaque_node holding (truth false) (truth true)) done)

-- a point above two pieces
abbrev pub of_platform : Plain
of_platform = node python_level (node (text_level SysPlatform) (truth false) (branch (codes "win32") (truth true) done)) (branch (at 3 12 0) (opaque_node first_one (truth true) (truth false)) done)

-- a system where an extra is chosen, and another beside it
abbrev pub of_chosen : Plain
of_chosen = node (text_level SysPlatform) (opaque_node chosen (truth false) (truth true)) (branch (codes "linux") (opaque_node chosen (truth true) (truth false)) done)

-- the texts of trees
pub record TextExamples : Type 0 where
  pub everywhere : marker_text (truth true) ≡ codes "*"
  pub lower_bound : marker_text from_3_8 ≡ codes "python_full_version >= '3.8.0'"
  pub interval : marker_text from_3_9_below_3_11 ≡ codes "python_full_version >= '3.9.0' and python_full_version < '3.11.0'"
  pub gap : marker_text but_3_9 ≡ codes "python_full_version < '3.9.0' or python_full_version >= '3.10.0'"
  pub points : marker_text of_systems ≡ codes "os_name == 'nt' or os_name != 'nt' and os_name != 'posix' and platform_release < \"it's\""
  pub opaque_that_fails : marker_text of_extra ≡ codes "extra == 'x' and '3' not in python_version"
  pub chosen_extra : marker_text of_chosen ≡ codes "sys_platform == 'linux' and 'x' in extras or sys_platform != 'linux' and 'x' not in extras"
  pub paths_in_order : marker_text of_platform ≡ codes "python_full_version < '3.12.0' and sys_platform == 'win32' or python_full_version >= '3.12.0' and implementation_version == '1'"
