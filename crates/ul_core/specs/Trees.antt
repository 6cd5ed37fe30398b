-- Trees as plain data, and what stands in a list of them.
use Rattle.std.specs.Prelude.{◌≡◌, ℕ, List, Some}
use Rattle.std.specs.List.{slice_get}
use Rattle.ul_core.specs.declared.trees.Tree.{Tree}
use Rattle.ul_core.specs.declared.trees.Tree.TheViews.{out-Tree, roll-Tree}

-- the tree of a label and parts
abbrev pub tree_with : {L : Type 0} → L → List (Tree L) → Tree L
tree_with l ps = roll-Tree _ record { label = l; parts = ps }

-- the parts of a tree, in order
abbrev pub parts_of : {L : Type 0} → Tree L → List (Tree L)
parts_of t = (out-Tree _ t).parts

-- the list has the tree at some place
abbrev pub Has : {L : Type 0} → List (Tree L) → Tree L → Type 0
Has xs t = (i : ℕ) × (slice_get xs i ≡ Some t)
