-- Numbers of names and nodes.
use Rattle.std.specs.Prelude.{ℕ, ◌+◌, ◌*◌, ◌%◌, ◌^◌, List, [], ◌∷◌, Option, Some, None}
use Rattle.ul_base.specs.declared.node.Node.{Node}

-- a number of a list and one more
abbrev pub mixed : ℕ → ℕ → ℕ
mixed seed number = ((seed * 1099511628211) % 2 ^ 64 + number) % 2 ^ 64

-- a number of a name, behind what was numbered before
abbrev pub name_number : ℕ → List ℕ → ℕ
name_number seed [] = seed
name_number seed (b ∷ bs) = name_number (mixed seed b) bs

-- of a name, and of an extra behind it
abbrev pub extra_number : ℕ → Option (List ℕ) → ℕ
extra_number number None = number
extra_number number (Some x) = name_number (mixed number 256) x

-- a number of a node
abbrev pub node_number : Node → ℕ
node_number n = extra_number (name_number 0 n.name) n.extra
