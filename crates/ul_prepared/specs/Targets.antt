-- Requirements whose targets are nodes of some kind.
use Rattle.std.specs.Prelude.{List, All}
use Rattle.ul_base.specs.declared.node.Node.{Node}
use Rattle.ul_requirement.specs.Fields.{RequirementFields}
use Rattle.ul_requirement.specs.Truth.{targets}
use Rattle.ul_region.specs.declared.rows.Asked.{Asked}
use Rattle.ul_prepared.specs.Lists.{lists_in}
use Rattle.ul_prepared.specs.declared.releases.Releases.{Releases}
use Rattle.ul_prepared.specs.declared.shared.Shared.{Shared}

-- each target of a requirement is such a node
abbrev pub HasTargets : (Node → Type 0) → RequirementFields → Type 0
HasTargets P q = All P (targets q)

-- each target of some requirements
abbrev pub HaveTargets : (Node → Type 0) → List RequirementFields → Type 0
HaveTargets P qs = All (HasTargets P) qs

-- each target of the requirement that is asked about
abbrev pub AsksTargets : (Node → Type 0) → Asked → Type 0
AsksTargets P a = HasTargets P a.requirement.now

-- each target of what a name's releases require
abbrev pub ListsTargets : (Node → Type 0) → Releases → Type 0
ListsTargets P r = All (HaveTargets P) (lists_in r)

-- each target of what the nodes of a name share
abbrev pub SharesTargets : (Node → Type 0) → Shared → Type 0
SharesTargets P s = All (HaveTargets P) s.lists.items
