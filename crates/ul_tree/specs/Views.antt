-- The plain data that a tree stands for. A node whose shape no tree has (pieces of the interpreter that don't
-- begin at 0, or not as many parts as starts) stands for plain data that isn't reduced.
use Rattle.std.specs.Prelude.{ℕ, List, [], ◌∷◌, map, String, string_bytes}
use Rattle.std.specs.declared.alloc.Global.{Global}
use Rattle.ul_nodes.specs.Closing.{pieces_of, python_of}
use Rattle.ul_nodes.specs.Levels.{extra_level, text_level, atom_level}
use Rattle.ul_nodes.specs.Plain.{Plain, truth, node, Branches, done, branch}
use Rattle.ul_tree.specs.declared.tree.Tree.{Tree, fold-Tree}
use Rattle.ul_tree.specs.declared.tree.Tree.TheOpen.{Tree-F}

-- the branches of points
abbrev pub points_of : List (String Global × Plain) → Branches
points_of [] = done
points_of (p ∷ ps) = branch (string_bytes p.0) p.1 (points_of ps)

-- one level of a tree
abbrev pub view_step : Tree-F Plain → Plain
view_step (Tree-F.Truth b) = truth b
view_step (Tree-F.Extra points other) = node extra_level other.value (points_of points.items)
view_step (Tree-F.Python starts parts) = python_of starts.items parts.items
view_step (Tree-F.Text variable points other) = node (text_level variable) other.value (points_of points.items)
view_step (Tree-F.Opaque atom holds fails) = node (atom_level atom) fails.value (branch (1 ∷ []) holds.value done)

-- the plain tree of a tree
abbrev pub tree_view : Tree → Plain
tree_view = fold-Tree Plain view_step

-- the branches of points
abbrev pub points_view : List (String Global × Tree) → Branches
points_view ps = points_of (map (λ p. (p.0, tree_view p.1)) ps)

-- the branches of pieces after the first
abbrev pub pieces_view : List ℕ → List Tree → Branches
pieces_view ss ts = pieces_of ss (map tree_view ts)
