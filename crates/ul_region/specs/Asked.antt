-- What a region asks of the requirements of a release at a node.
use Rattle.std.specs.Prelude.{◌≡◌, List, Contains, not}
use Rattle.ul_base.specs.declared.node.Node.{Node}
use Rattle.ul_requirement.specs.Fields.{RequirementFields}
use Rattle.ul_requirement.specs.Truth.{applies_at}
use Rattle.ul_index.specs.Applied.{IsFirm, IsSplitGroup}
use Rattle.ul_index.specs.Catalogs.{is_release_fit}
use Rattle.ul_index.specs.Regions.{Region, Somewhere, Throughout}
use Rattle.ul_region.specs.Rows.{IsRow}
use Rattle.ul_region.specs.Truths.{PassView, Apart, AreWithin, IsRegion, region_at}
use Rattle.ul_region.specs.declared.rows.Asked.{Asked}
use Rattle.ul_region.specs.declared.at_node.AtNode.{AtNode}
use Rattle.ul_region.specs.declared.in_region.InRegion.{InRegion}

-- truths, and where in the region they hold
pub record IsInRegion (h : PassView) (s : InRegion) : Type 0 where
  pub region : IsRegion h s.region.now
  pub within : AreWithin h s.region.now s.truths.now s.within.items

-- the region that is asked about
abbrev pub region_asked : AtNode → Region
region_asked s = region_at s.place.now.region.now

-- the requirements of a release at a node, in a region
pub record IsAtNode (h : PassView) (s : AtNode) : Type 0 where
  pub place : IsInRegion h s.place.now
  pub row : IsRow h s.node.now s.place.now.truths.now s.row.now

-- the requirements of the release, in order
abbrev pub asked_of : AtNode → List RequirementFields
asked_of s = s.row.now.release.now.requirements

-- an applied requirement on the same name, of another truth in the region
pub record IsOther (R : Region) (n : Node) (one other : RequirementFields) : Type 0 where
  pub somewhere : Somewhere R (applies_at other n)
  pub named : other.name ≡ one.name
  pub apart : Apart R (applies_at one n) (applies_at other n)

-- ---- what is asked

-- it is one of those that the row has: they may be true at the node
abbrev pub HasAsked : AtNode → Asked → Type 0
HasAsked s a = Contains s.row.now.asked a

-- the release is fit at some world of the region
abbrev pub IsFitSomewhere : AtNode → Type 0
IsFitSomewhere s = Somewhere (region_asked s) (is_release_fit s.row.now.release.now)

-- it is fit at every world of the region
abbrev pub IsFitThroughout : AtNode → Type 0
IsFitThroughout s = Throughout (region_asked s) (is_release_fit s.row.now.release.now)

-- it isn't fit at some world of the region
abbrev pub IsUnfitSomewhere : AtNode → Type 0
IsUnfitSomewhere s = Somewhere (region_asked s) (λ w. not (is_release_fit s.row.now.release.now w))

-- the requirement is true at some world of the region
abbrev pub IsTrueSomewhere : AtNode → Asked → Type 0
IsTrueSomewhere s a = Somewhere (region_asked s) (applies_at a.requirement.now s.node.now)

-- it is another of its name, of another truth
abbrev pub HasOther : AtNode → Asked → Asked → Type 0
HasOther s one other = IsOther (region_asked s) s.node.now one.requirement.now other.requirement.now

-- those on its name are a split group
abbrev pub HasGroup : AtNode → Asked → Type 0
HasGroup s a = IsSplitGroup (asked_of s) (region_asked s) s.node.now a.requirement.now.name

-- it is firm
abbrev pub IsFirmAsked : AtNode → Asked → Type 0
IsFirmAsked s a = IsFirm (asked_of s) (region_asked s) s.node.now a.requirement.now
