-- How many paths of a tree lead to true, and how long they are.
use Rattle.std.specs.Prelude.{ℕ, suc, ◌+◌, max, nat_le, Bool, true, false, ◌&&◌}
use Rattle.ul_nodes.specs.Plain.{Plain, truth, node, Branches, done, branch}

-- one for true, none for false, and those of all parts of a node
abbrev mutual
  pub paths_of : Plain → ℕ
  paths_of (truth true) = 1
  paths_of (truth false) = 0
  paths_of (node l d bs) = paths_of d + paths_in bs

  pub paths_in : Branches → ℕ
  paths_in done = 0
  paths_in (branch k c rest) = paths_of c + paths_in rest

-- the most nodes on a path
abbrev mutual
  pub levels_of : Plain → ℕ
  levels_of (truth value) = 0
  levels_of (node l d bs) = suc (max (levels_of d) (levels_in bs))

  pub levels_in : Branches → ℕ
  levels_in done = 0
  levels_in (branch k c rest) = max (levels_of c) (levels_in rest)

-- whether a tree is printed as the text of a marker: at most 4,096 of its paths lead to true, and none has more than 512 nodes
unfoldable pub is_printable : Plain → Bool
is_printable t = nat_le (paths_of t) 4096 && nat_le (levels_of t) 512
