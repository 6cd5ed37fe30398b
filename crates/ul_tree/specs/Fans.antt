-- Paths by their first steps, and the tree that paths to true come from.
use Rattle.std.specs.Prelude.{ℕ, List, [], ◌∷◌, Bool, true, false, Option, Some, None, ◌==◌, ◌^◌, if◌then◌else◌}
use Rattle.std.specs.Str.{bytes_eq}
use Rattle.ul_nodes.specs.Levels.{python_level}
use Rattle.ul_nodes.specs.Plain.{Plain, truth, node, Branches, done, branch}
use Rattle.ul_tree.specs.PathList.{Step, interval, point, others}

-- ---- paths by their first steps

-- no path; the one path that has no steps; or paths with one first step, what they go on with, and other paths
pub data Fan : Type 0 where
  stop : Fan
  end : Fan
  edge : Step → Fan → Fan → Fan

-- keys in a row
abbrev pub same_keys : List (List ℕ) → List (List ℕ) → Bool
same_keys [] [] = true
same_keys [] (j ∷ js) = false
same_keys (k ∷ ks) [] = false
same_keys (k ∷ ks) (j ∷ js) = if bytes_eq k j then same_keys ks js else false

-- whether two steps are one
abbrev pub same_step : Step → Step → Bool
same_step (interval a b) (interval c d) = if a == c then b == d else false
same_step (interval a b) (point m j) = false
same_step (interval a b) (others m js) = false
same_step (point l k) (interval c d) = false
same_step (point l k) (point m j) = if bytes_eq l m then bytes_eq k j else false
same_step (point l k) (others m js) = false
same_step (others l ks) (interval c d) = false
same_step (others l ks) (point m j) = false
same_step (others l ks) (others m js) = if bytes_eq l m then same_keys ks js else false

-- whether paths begin with this step
abbrev pub begins : Step → Fan → Bool
begins s stop = false
begins s end = false
begins s (edge r more rest) = same_step s r

-- paths after a first one that begins with their first step, or with another
abbrev pub put_edge : Bool → Step → Fan → Fan → Fan → Fan
put_edge true s alone joined rest = edge s joined rest
put_edge false s alone joined rest = edge s alone rest

-- what paths go on with after their first step, and the other paths
abbrev pub inner_of : Fan → Fan
inner_of stop = stop
inner_of end = stop
inner_of (edge s more rest) = more

-- the paths that don't begin with the first step
abbrev pub rest_of : Fan → Fan
rest_of stop = stop
rest_of end = stop
rest_of (edge s more rest) = rest

-- a path in front of paths
abbrev pub put_path : List Step → Fan → Fan
put_path [] fan = end
put_path (s ∷ path) fan = if begins s fan then edge s (put_path path (inner_of fan)) (rest_of fan) else edge s (put_path path stop) fan

-- paths in front of paths
abbrev pub put_paths : List (List Step) → Fan → Fan
put_paths [] fan = fan
put_paths (p ∷ ps) fan = put_path p (put_paths ps fan)

-- paths by their first steps
abbrev pub fan_of : List (List Step) → Fan
fan_of ps = put_paths ps stop

-- ---- the tree of paths

-- pieces of the interpreter, from a number on: false where there is none
abbrev pub pieces_from : ℕ → List (Step × Plain) → Branches
pieces_from start [] = if start == 2 ^ 96 then done else branch (start ∷ []) (truth false) done
pieces_from start ((interval a b, p) ∷ parts) =
    if start == a then branch (a ∷ []) p (pieces_from b parts) else branch (start ∷ []) (truth false) (branch (a ∷ []) p (pieces_from b parts))
pieces_from start ((point l k, p) ∷ parts) = done
pieces_from start ((others l ks, p) ∷ parts) = done

-- the node of the interpreter whose first piece is the first branch
abbrev pub opening_node : Branches → Plain
opening_node done = truth false
opening_node (branch k p rest) = node python_level p rest

-- the other part of a node, with its keys
abbrev pub other_part : List (Step × Plain) → Option (List (List ℕ) × Plain)
other_part [] = None
other_part ((interval a b, p) ∷ parts) = None
other_part ((point l k, p) ∷ parts) = other_part parts
other_part ((others l ks, p) ∷ parts) = Some (ks, p)

-- the points that are listed
abbrev pub listed_points : List (Step × Plain) → Branches
listed_points [] = done
listed_points ((interval a b, p) ∷ parts) = done
listed_points ((point l k, p) ∷ parts) = branch k p (listed_points parts)
listed_points ((others l ks, p) ∷ parts) = done

-- the points of keys: false where none is listed
abbrev pub filled_points : List (List ℕ) → List (Step × Plain) → Branches
filled_points [] parts = done
filled_points (k ∷ ks) [] = branch k (truth false) (filled_points ks [])
filled_points (k ∷ ks) ((interval a b, p) ∷ parts) = branch k (truth false) (filled_points ks ((interval a b, p) ∷ parts))
filled_points (k ∷ ks) ((point l j, p) ∷ parts) = if bytes_eq k j then branch k p (filled_points ks parts) else branch k (truth false) (filled_points ks ((point l j, p) ∷ parts))
filled_points (k ∷ ks) ((others l js, p) ∷ parts) = branch k (truth false) (filled_points ks ((others l js, p) ∷ parts))

-- the node of points
abbrev pub pointed_at : List ℕ → List (Step × Plain) → Option (List (List ℕ) × Plain) → Plain
pointed_at l parts None = node l (truth false) (listed_points parts)
pointed_at l parts (Some other) = node l other.1 (filled_points other.0 parts)

-- the node that has these parts where it isn't false
abbrev pub node_of : List (Step × Plain) → Plain
node_of [] = truth false
node_of ((interval a b, p) ∷ parts) = opening_node (pieces_from 0 ((interval a b, p) ∷ parts))
node_of ((point l k, p) ∷ parts) = pointed_at l ((point l k, p) ∷ parts) (other_part ((point l k, p) ∷ parts))
node_of ((others l ks, p) ∷ parts) = pointed_at l ((others l ks, p) ∷ parts) (other_part ((others l ks, p) ∷ parts))

abbrev mutual
  -- the tree of paths
  pub tree_of : Fan → Plain
  tree_of stop = truth false
  tree_of end = truth true
  tree_of (edge s more rest) = node_of ((s, tree_of more) ∷ parts_of rest)

  -- the parts of paths, by their first steps
  pub parts_of : Fan → List (Step × Plain)
  parts_of stop = []
  parts_of end = []
  parts_of (edge s more rest) = (s, tree_of more) ∷ parts_of rest
