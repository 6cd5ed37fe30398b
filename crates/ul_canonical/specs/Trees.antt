-- The canonical text of a marker: that of its one reduced tree.
use Rattle.std.specs.Prelude.{ℕ, List, [], ◌++◌, codes, flat_map, if◌then◌else◌, Bool}
use Rattle.std.specs.List.{AllZip}
use Rattle.ul_comparison.specs.Formulas.{Formula}
use Rattle.ul_comparison.specs.Truth.{marker_holds}
use Rattle.ul_comparison.specs.Worlds.{WorldFields}
use Rattle.ul_nodes.specs.Plain.{Plain}
use Rattle.ul_tree.specs.FirstParts.{is_false}
use Rattle.ul_tree.specs.Regions.{HasTruth}
use Rattle.ul_marker_text.specs.MarkerText.{marker_text}

-- the truth of a formula at a world; that of one that asks for no extra is the same with each
abbrev pub formula_truth : Formula → WorldFields → Bool
formula_truth f w = marker_holds f w []

-- the tree is reduced, and has the formula's truth at each world, whatever the extra: there is one such tree
abbrev pub IsTreeOf : Formula → Plain → Type 0
IsTreeOf f t = HasTruth t (formula_truth f)

-- each tree is that of the formula at its place
abbrev pub AreTreesOf : List Formula → List Plain → Type 0
AreTreesOf fs ts = AllZip IsTreeOf fs ts

-- `never` where the tree is false everywhere, which no marker's text says; else the text of its marker, which is `*`
-- where it is true everywhere
abbrev pub canonical_text : Plain → List ℕ
canonical_text t = if is_false t then codes "never" else marker_text t

-- the line of a tree
abbrev pub tree_line : Plain → List ℕ
tree_line t = canonical_text t ++ codes "\n"

-- the lines of trees
abbrev pub trees_text : List Plain → List ℕ
trees_text ts = flat_map tree_line ts
