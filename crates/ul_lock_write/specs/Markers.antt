-- The markers of a lock, and the first that isn't printed: with too many paths, or too many nodes on one.
use Rattle.std.specs.Prelude.{ℕ, ◌^◌, List, [], ◌∷◌, ◌++◌, flat_map, min, Option, Some, None, if◌then◌else◌}
use Rattle.ul_nodes.specs.Plain.{Plain}
use Rattle.ul_tree.specs.Paths.{paths_of, is_printable}
use Rattle.ul_lock.specs.declared.parts.Edge.{Edge}
use Rattle.ul_lock.specs.declared.parts.Extra.{Extra}
use Rattle.ul_lock.specs.declared.parts.Locked.{Locked}
use Rattle.ul_lock.specs.declared.parts.Lock.{Lock}

-- the marker of an edge
abbrev pub edge_marker : Edge → List Plain
edge_marker e = e.marker ∷ []

-- those of the edges of an extra
abbrev pub extra_markers : Extra → List Plain
extra_markers x = flat_map edge_marker x.edges

-- those of a package, in the order of its text
abbrev pub package_markers : Locked → List Plain
package_markers b = flat_map edge_marker b.edges ++ flat_map extra_markers b.extras

-- the marker of a leaf
abbrev pub fork_marker : Plain → List Plain
fork_marker m = m ∷ []

-- the markers of a lock in the order of its text; the tree of all worlds, which isn't printed, has one path
abbrev pub markers_of : Lock → List Plain
markers_of l = l.supported ∷ (flat_map fork_marker l.forks ++ flat_map package_markers l.packages)

-- the number of a tree's paths to true, at most 2^127, if the tree isn't printed
unfoldable pub over : Plain → Option ℕ
over t = if is_printable t then None else Some (min (paths_of t) (2 ^ 127))

-- the first, or else the second
abbrev pub or_else : Option ℕ → Option ℕ → Option ℕ
or_else None more = more
or_else (Some p) more = Some p

-- the number of paths of the first tree that isn't printed
unfoldable pub first_over : List Plain → Option ℕ
first_over [] = None
first_over (t ∷ ts) = or_else (over t) (first_over ts)
