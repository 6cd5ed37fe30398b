-- Leaves of code as plain data.
use Rattle.std.specs.Prelude.{Vec}
use Rattle.std.specs.declared.alloc.Global.{Global}
use Rattle.ul_base.specs.declared.node.Node.{Node}
use Rattle.ul_version.specs.Fields.{Fields}
use Rattle.ul_algebra.specs.Spelled.{tree_of}
use Rattle.ul_generations.specs.declared.rows.Leaf.{Leaf}
use Rattle.ul_index.specs.Serves.{Selection}
use Rattle.ul_region.specs.Truths.{DiagramMark}
use Rattle.ul_sound.specs.Leaves.{LeafFields}

-- a leaf of the fork answer: a region that is done, with the decisions of its selection
abbrev pub ForkLeaf : Type 0
ForkLeaf = Leaf DiagramMark (Vec (Node × Fields) Global)

-- its region as a tree, and its selection
abbrev pub leaf_of : ForkLeaf → LeafFields
leaf_of l = record { region = tree_of l.region; picks = l.done.items }

-- its selection
abbrev pub picks_of : ForkLeaf → Selection
picks_of l = l.done.items
