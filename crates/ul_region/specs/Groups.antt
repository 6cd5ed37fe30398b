-- Which requirement of a release parts a region. `qs` are the requirements of the release.
use Rattle.std.specs.Prelude.{◌≡◌, ℕ, List, Contains, not, Option, Some, None}
use Rattle.std.specs.Borrow.{Bor}
use Rattle.ul_base.specs.declared.node.Node.{Node}
use Rattle.ul_base.specs.Kept.{IsFirst}
use Rattle.ul_requirement.specs.Fields.{RequirementFields}
use Rattle.ul_requirement.specs.Truth.{applies_at}
use Rattle.ul_index.specs.Regions.{Region, Somewhere}
use Rattle.ul_index.specs.Applied.{IsApplied, IsSplitGroup}
use Rattle.ul_region.specs.Truths.{PassView, DiagramMark, IsTruth}
use Rattle.ul_region.specs.Asked.{asked_of, region_asked}
use Rattle.ul_region.specs.declared.rows.Asked.{Asked}
use Rattle.ul_region.specs.declared.at_node.AtNode.{AtNode}

-- an applied requirement in a split group
abbrev pub InSplit : List RequirementFields → Region → Node → RequirementFields → Type 0
InSplit qs R n q = IsApplied qs R n q × IsSplitGroup qs R n q.name

-- an applied requirement on the name that fails at some world of the region
pub record FailsIn (qs : List RequirementFields) (R : Region) (n : Node) (name : List ℕ) (q : RequirementFields) : Type 0 where
  pub applied : IsApplied qs R n q
  pub named : q.name ≡ name
  pub fails : Somewhere R (λ w. not (applies_at q n w))

-- the first group's first requirement that fails somewhere; the group is the one whose first requirement comes first
pub record IsParting (qs : List RequirementFields) (R : Region) (n : Node) (requirement : RequirementFields) : Type 0 where
  pub opener : RequirementFields
  pub first_group : IsFirst (InSplit qs R n) qs opener
  pub first_failing : IsFirst (FailsIn qs R n opener.name) qs requirement

-- the first of a list that is such, or none is
abbrev pub FirstOf : List Asked → List RequirementFields → (RequirementFields → Type 0) → Option (Bor Asked) → Type 0
FirstOf asked qs P None = (q : RequirementFields) → Contains qs q → P q → ⊥
FirstOf asked qs P (Some a) = Contains asked a.now × IsFirst P qs a.now.requirement.now

-- the diagram of the requirement that parts the region, or there is no split group
abbrev pub PartsBy : PassView → List RequirementFields → Region → Node → Option (Bor DiagramMark) → Type 0
PartsBy h qs R n None = (name : List ℕ) → IsSplitGroup qs R n name → ⊥
PartsBy h qs R n (Some t) = (q : RequirementFields) × IsParting qs R n q × IsTruth h t.now (applies_at q n)

-- ---- of a row's requirements

-- an applied one in a split group
abbrev pub IsInSplit : AtNode → Asked → Type 0
IsInSplit s a = InSplit (asked_of s) (region_asked s) s.node.now a.requirement.now

-- an applied one on the opener's name that fails somewhere
abbrev pub IsFailing : AtNode → Asked → Asked → Type 0
IsFailing s opener a = FailsIn (asked_of s) (region_asked s) s.node.now opener.requirement.now.name a.requirement.now

-- the first one in a split group, or there is none
abbrev pub OpensGroup : AtNode → Option (Bor Asked) → Type 0
OpensGroup s o = FirstOf s.row.now.asked (asked_of s) (InSplit (asked_of s) (region_asked s) s.node.now) o

-- the first one on the opener's name that fails somewhere, or there is none
abbrev pub FailsFirst : AtNode → Asked → Option (Bor Asked) → Type 0
FailsFirst s opener o = FirstOf s.row.now.asked (asked_of s) (FailsIn (asked_of s) (region_asked s) s.node.now opener.requirement.now.name) o

-- the diagram of what parts the region, or there is no split group
abbrev pub PartsRegion : PassView → AtNode → Option (Bor DiagramMark) → Type 0
PartsRegion h s o = PartsBy h (asked_of s) (region_asked s) s.node.now o
