-- The tree that a plant of labels spells. A plant whose labels and parts don't fit spells a tree that isn't reduced.
use Rattle.std.specs.Prelude.{ℕ, List, [], ◌∷◌}
use Rattle.ul_core.specs.declared.trees.Tree.{Tree}
use Rattle.ul_core.specs.declared.trees.Tree.TheOpen.{Tree-F}
use Rattle.ul_core.specs.declared.trees.Tree.TheFolds.{fold-Tree}
use Rattle.ul_interner.specs.Marked.{Marked, plain}
use Rattle.ul_nodes.specs.Levels.{extra_level, text_level, atom_level}
use Rattle.ul_nodes.specs.Plain.{Plain, truth, node, Branches, done, branch}
use Rattle.ul_nodes.specs.Closing.{shapeless, python_of}
use Rattle.ul_algebra.specs.declared.labels.DiagramLabel.{DiagramLabel}
use Rattle.ul_algebra.specs.declared.labels.DiagramLabel.TheVariants.{Truth, Extra, Python, Text, Opaque}

-- the part after those of the keys, which is the last
abbrev pub other_of : List (List ℕ) → List Plain → Plain
other_of [] [] = shapeless
other_of [] (p ∷ []) = p
other_of [] (p ∷ q ∷ ps) = shapeless
other_of (k ∷ ks) [] = shapeless
other_of (k ∷ ks) (p ∷ ps) = other_of ks ps

-- the branches of keys
abbrev pub branches_by : List (List ℕ) → List Plain → Branches
branches_by [] ps = done
branches_by (k ∷ ks) [] = done
branches_by (k ∷ ks) (p ∷ ps) = branch k p (branches_by ks ps)

-- a node of keys, whose parts are theirs and the other one
abbrev pub keyed_node : List ℕ → List (List ℕ) → List Plain → Plain
keyed_node l ks ps = node l (other_of ks ps) (branches_by ks ps)

-- one node
abbrev pub spelling : DiagramLabel → List Plain → Plain
spelling (Truth b) [] = truth b
spelling (Truth b) (p ∷ ps) = shapeless
spelling (Extra points) ps = keyed_node extra_level points ps
spelling (Python starts) ps = python_of starts ps
spelling (Text variable points) ps = keyed_node (text_level variable) points ps
spelling (Opaque atom) ps = keyed_node (atom_level atom) ((1 ∷ []) ∷ []) ps

-- the tree of one node whose parts are trees already
abbrev pub spell_step : Tree-F DiagramLabel Plain → Plain
spell_step n = spelling n.label n.parts

-- the tree that a plant spells
abbrev pub spells : Tree DiagramLabel → Plain
spells = fold-Tree DiagramLabel Plain spell_step

-- the tree that a diagram stands for
abbrev pub tree_of : Marked DiagramLabel → Plain
tree_of m = spells (plain m)
