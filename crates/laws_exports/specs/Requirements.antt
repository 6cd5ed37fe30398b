-- The requirement that pins a node to a version.
use Rattle.std.specs.Prelude.{ℕ, List, [], ◌∷◌, Option, Some, None}
use Rattle.ul_base.specs.declared.node.Node.{Node}
use Rattle.ul_version.specs.Fields.{Fields}
use Rattle.ul_comparison.specs.Formulas.{Formula}
use Rattle.ul_requirement.specs.Fields.{RequirementFields}
use Rattle.laws_exports.specs.Pins.{exactly}

-- the extra of a node, if it has one
abbrev pub extras_of : Option (List ℕ) → List (List ℕ)
extras_of None = []
extras_of (Some x) = x ∷ []

-- the requirement of a node at a version, with a marker or without one: NAME==VERSION or NAME[EXTRA]==VERSION
abbrev pub pinned : Node → Fields → Option Formula → RequirementFields
pinned n v marker = record { name = n.name; extras = extras_of n.extra; specifiers = exactly v; marker = marker }
