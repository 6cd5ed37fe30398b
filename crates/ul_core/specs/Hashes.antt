-- The structural hash of a tree, by the hash of its labels.
use Rattle.std.specs.Prelude.{◌≡◌, ℕ, ◌+◌, ◌*◌, ◌%◌, List, map}
use Rattle.std.specs.List.{fold}
use Rattle.ul_core.specs.declared.trees.Tree.{Tree}
use Rattle.ul_core.specs.declared.trees.Tree.TheOpen.{Tree-F}
use Rattle.ul_core.specs.declared.trees.Tree.TheFolds.{fold-Tree}
use Rattle.ul_core.specs.Trees.{tree_with}

-- the hash so far, with the hash of one part more
abbrev pub next_hash : ℕ → ℕ → ℕ
next_hash hash part = (hash * 6364136223846793005 + part + 1) % 18446744073709551616

-- one node, with the hash of each part in the part's place: the label's hash, then each part in order
abbrev pub node_hash : {L : Type 0} → (L → ℕ) → Tree-F L ℕ → ℕ
node_hash f n = fold next_hash (f n.label) n.parts

-- the structural hash
abbrev pub tree_hash : {L : Type 0} → (L → ℕ) → Tree L → ℕ
tree_hash f = fold-Tree _ ℕ (node_hash f)

-- the hash of a node comes from the hash of its label and those of its parts, in order
abbrev pub EachHashIsOfParts : {L : Type 0} → (L → ℕ) → Type 0
EachHashIsOfParts {L} f =
    (label : L) (parts : List (Tree L)) → tree_hash f (tree_with label parts) ≡ fold next_hash (f label) (map (tree_hash f) parts)
