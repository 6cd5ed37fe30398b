-- What holds of the paths of a tree that lead to true.
use Rattle.std.specs.Prelude.{◌≡◌, ℕ, List, length, [], ◌∷◌, map, false, Option, Some, None}
use Rattle.ul_comparison.specs.Worlds.{WorldFields}
use Rattle.ul_tree.specs.Fans.{fan_of, tree_of}
use Rattle.ul_nodes.specs.Levels.{python_level}
use Rattle.ul_tree.specs.PathList.{Step, interval, point, others, paths_to_true}
use Rattle.ul_tree.specs.PathTruth.{some_path_holds}
use Rattle.ul_tree.specs.Paths.{paths_of}
use Rattle.ul_nodes.specs.Plain.{Plain, truth, Branches, done, branch}
use Rattle.ul_nodes.specs.Reduced.{IsReduced}
use Rattle.ul_tree.specs.Sample
use Rattle.ul_tree.specs.Sample.{beside, first_path}
use Rattle.ul_tree.specs.Values.{value_of, tree_holds}

-- as many paths are listed as are counted
abbrev pub ListedAreCounted : Type 0
ListedAreCounted = (t : Plain) → length (paths_to_true t) ≡ paths_of t

-- a tree is true where all comparisons of some path hold
abbrev pub PathsTellTruth : Type 0
PathsTellTruth = (t : Plain) → IsReduced t → (w : WorldFields) (x : List ℕ) → tree_holds t w x ≡ some_path_holds (value_of w x) (paths_to_true t)

-- a reduced tree is the tree of its paths
abbrev pub TreeOfPaths : Type 0
TreeOfPaths = (t : Plain) → IsReduced t → tree_of (fan_of (paths_to_true t)) ≡ t

-- ---- the sample's path

-- branches at keys
abbrev pub blank_branches : List (List ℕ) → Branches
blank_branches [] = done
blank_branches (k ∷ ks) = branch k (truth false) (blank_branches ks)

-- the level that a step asks for
abbrev pub step_level : Step → List ℕ
step_level (interval start end) = python_level
step_level (point l k) = l
step_level (others l ks) = l

-- the value that a sample takes there: the first interpreter of an interval, the key of a point, and none of some keys
abbrev pub step_value : Step → List ℕ
step_value (interval start end) = start ∷ []
step_value (point l k) = k
step_value (others l ks) = beside l (blank_branches ks)

-- the level and the value
abbrev pub sample_step : Step → Sample.Step
sample_step s = record { level = step_level s; value = step_value s }

-- the first of paths, by the values that a sample takes
abbrev pub first_of_paths : List (List Step) → Option (List Sample.Step)
first_of_paths [] = None
first_of_paths (p ∷ ps) = Some (map sample_step p)

-- a tree's sample is that of the first of its paths to true
abbrev pub SampleIsFirst : Type 0
SampleIsFirst = (t : Plain) → IsReduced t → first_path t ≡ first_of_paths (paths_to_true t)
