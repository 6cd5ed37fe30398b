-- What the worked examples of nodes speak of.
use Rattle.std.specs.Prelude.{ℕ, List, Option}
use Rattle.ul_base.specs.declared.node.Node.{Node}

-- the node of a name and an extra, or of the name's base
abbrev pub node_at : List ℕ → Option (List ℕ) → Node
node_at name extra = record { name = name; extra = extra }
