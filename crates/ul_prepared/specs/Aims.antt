-- Needs of requirements by places of nodes.
use Rattle.std.specs.Prelude.{ℕ, List, map}
use Rattle.ul_base.specs.declared.node.Node.{Node}
use Rattle.ul_specifier.specs.Clauses.{ClauseFields}
use Rattle.ul_region.specs.Best.{Need}
use Rattle.ul_prepared.specs.Prepared.{IsNodeAt}
use Rattle.ul_prepared.specs.declared.prepared.NameFacts.{NameFacts}
use Rattle.ul_prepared.specs.declared.prepared.Planned.{Planned}

-- the node stands at the place, and its name is known
abbrev pub HasNode : List NameFacts → List Planned → Node → ℕ → Type 0
HasNode names nodes n k = (f : NameFacts) × IsNodeAt names nodes k n f

-- needs of targets, whose versions have to meet the specifiers
abbrev pub needs_on : List ClauseFields → List Node → List Need
needs_on specifiers targets = map (λ t. record { node = t; specifiers = specifiers }) targets
