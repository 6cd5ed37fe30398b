-- The first of some parts that isn't false.
use Rattle.std.specs.Prelude.{ℕ, List, Bool, true, false, Option, Some, None, if◌then◌else◌}
use Rattle.std.specs.Prelude.{String}
use Rattle.std.specs.declared.alloc.Global.{Global}
use Rattle.ul_tree.specs.Views.{points_view, pieces_view}
use Rattle.ul_tree.specs.declared.tree.Tree.{Tree}
use Rattle.ul_nodes.specs.Plain.{Plain, truth, node, Branches, done, branch}

-- whether a tree is false
abbrev pub is_false : Plain → Bool
is_false (truth true) = false
is_false (truth false) = true
is_false (node l d bs) = false

-- the first branch whose part isn't false, as its key and its part
abbrev pub first_branch : Branches → Option (List ℕ × Plain)
first_branch done = None
first_branch (branch k c rest) = if is_false c then first_branch rest else Some (k, c)

-- the first point whose part isn't false
abbrev pub first_point_of : List (String Global × Tree) → Option (List ℕ × Plain)
first_point_of points = first_branch (points_view points)

-- the first piece after the first whose part isn't false
abbrev pub first_piece_of : List ℕ → List Tree → Option (List ℕ × Plain)
first_piece_of starts parts = first_branch (pieces_view starts parts)
