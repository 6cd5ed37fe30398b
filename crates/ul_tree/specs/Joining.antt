-- The joint truth of many trees.
use Rattle.std.specs.Prelude.{ℕ, List, map, Bool, true, false, ◌-◌, length, take, drop}
use Rattle.std.specs.List.{list_all, list_any}
use Rattle.ul_comparison.specs.Worlds.{WorldFields}
use Rattle.ul_tree.specs.Values.{tree_holds}
use Rattle.ul_tree.specs.Views.{tree_view}
use Rattle.ul_tree.specs.declared.tree.Tree.{Tree}

-- how many truths are joined: all of them, or some
abbrev pub joint : Bool → List Bool → Bool
joint true truths = list_all (λ b. b) truths
joint false truths = list_any (λ b. b) truths

-- the truths of trees at a world with an extra
abbrev pub truths_of : List Tree → WorldFields → List ℕ → List Bool
truths_of trees w x = map (λ t. tree_holds (tree_view t) w x) trees

-- all but the last so many trees of a row
abbrev pub first_trees : ℕ → List Tree → List Tree
first_trees count trees = take (length trees - count) trees

-- the last so many trees of a row
abbrev pub last_trees : ℕ → List Tree → List Tree
last_trees count trees = drop (length trees - count) trees
