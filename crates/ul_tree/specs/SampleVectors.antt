-- Worked examples of the world of the first path to true.
use Rattle.std.specs.Prelude.{◌≡◌, ◌+◌, ◌*◌, ◌^◌, ℕ, List, [], ◌∷◌, true, false, codes}
use Rattle.ul_comparison.specs.Atoms.{AtomFields}
use Rattle.ul_comparison.specs.Worlds.{WorldFields}
use Rattle.ul_comparison.specs.declared.variable.AtomKind.TheVariants.{Contains}
use Rattle.ul_comparison.specs.declared.variable.Variable.{Variable}
use Rattle.ul_comparison.specs.declared.variable.Variable.TheVariants.{OsName, SysPlatform, PlatformVersion}
use Rattle.ul_nodes.specs.Levels.{python_level, text_level, atom_level}
use Rattle.ul_nodes.specs.Plain.{Plain, truth, node, Branches, done, branch}
use Rattle.ul_nodes.specs.Reduced.{IsReduced}
use Rattle.ul_tree.specs.Sample.{empty_world, sample_of}

-- the interpreter 3.8.0 as a number
abbrev pub three_eight : List ℕ
three_eight = (3 * 2 ^ 64 + 8 * 2 ^ 32) ∷ []

-- from 3.8.0 on, where a tree holds
abbrev pub from_three_eight : Plain → Plain
from_three_eight t = node python_level (truth false) (branch three_eight t done)

-- interpreters below 3.8.0
abbrev pub below_three_eight : Plain
below_three_eight = node python_level (truth true) (branch three_eight (truth false) done)

-- a variable has a text, and a tree holds
abbrev pub has_text : Variable → List ℕ → Plain → Plain
has_text v text t = node (text_level v) (truth false) (branch text t done)

-- a text variable is none of its points
abbrev pub other_text : Branches → Plain
other_text bs = node (text_level OsName) (truth true) bs

-- a point that leads on, and an other part that holds
abbrev pub windows_32_or_other : Plain
windows_32_or_other = node (text_level OsName) (truth true) (branch (codes "nt") (has_text SysPlatform (codes "win32") (truth true)) done)

-- a point that is false, and one that holds
abbrev pub second_point : Plain
second_point = node (text_level OsName) (truth false) (branch (codes "nt") (has_text SysPlatform (codes "win32") (truth true)) (branch (codes "posix") (truth true) done))

-- the literal of the comparison below
abbrev pub ubuntu : AtomFields
ubuntu = record { variable = PlatformVersion; kind = Contains; literal = codes "Ubuntu" }

-- an opaque comparison holds
abbrev pub contains_ubuntu : Plain
contains_ubuntu = node (atom_level ubuntu) (truth false) (branch (1 ∷ []) (truth true) done)

-- an opaque comparison fails
abbrev pub lacks_ubuntu : Plain
lacks_ubuntu = node (atom_level ubuntu) (truth true) (branch (1 ∷ []) (truth false) done)

-- the empty world with these texts of `os_name` and `sys_platform`
abbrev pub world_with : List ℕ → List ℕ → WorldFields
world_with os platform = record empty_world { texts = os ∷ platform ∷ [] ∷ [] ∷ [] ∷ [] ∷ [] ∷ [] ∷ [] }

-- trees and their samples
pub record SampleExamples : Type 0 where
  pub everywhere : sample_of (truth true) ≡ empty_world
  pub start : sample_of (from_three_eight (truth true)) ≡ record empty_world { major = 3; minor = 8 }
  pub below : sample_of below_three_eight ≡ empty_world
  pub point : sample_of (has_text OsName (codes "nt") (truth true)) ≡ world_with (codes "nt") []
  pub other : sample_of (other_text (branch (codes "nt") (truth false) done)) ≡ empty_world
  pub not_empty : sample_of (other_text (branch [] (truth false) done)) ≡ world_with (codes "x") []
  pub not_x : sample_of (other_text (branch [] (truth false) (branch (codes "x") (truth false) done))) ≡ world_with (codes "xx") []
  pub x_is_free : sample_of (other_text (branch [] (truth false) (branch (codes "xx") (truth false) done))) ≡ world_with (codes "x") []
  pub points_before_other : sample_of windows_32_or_other ≡ world_with (codes "nt") (codes "win32")
  pub points_in_order : sample_of second_point ≡ world_with (codes "nt") (codes "win32")
  pub holds : sample_of contains_ubuntu ≡ record empty_world { truths = ubuntu ∷ [] }
  pub fails : sample_of lacks_ubuntu ≡ empty_world
  pub together : sample_of (from_three_eight (has_text OsName (codes "posix") contains_ubuntu)) ≡ record (world_with (codes "posix") []) { major = 3; minor = 8; truths = ubuntu ∷ [] }
  pub reduced : IsReduced (from_three_eight (has_text OsName (codes "posix") contains_ubuntu))
