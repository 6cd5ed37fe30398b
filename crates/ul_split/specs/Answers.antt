-- What the code answers of a split, as diagrams.
use Rattle.std.specs.Prelude.{List, Bool, Contains, Option, Some, None}
use Rattle.std.specs.Borrow.{Bor}
use Rattle.ul_base.specs.Kept.{IsFirst}
use Rattle.ul_comparison.specs.Worlds.{WorldFields}
use Rattle.ul_requirement.specs.Fields.{RequirementFields}
use Rattle.ul_requirement.specs.Truth.{applies_at}
use Rattle.ul_index.specs.Regions.{Region}
use Rattle.ul_region.specs.Truths.{PassView, DiagramMark, IsTruth}
use Rattle.ul_region.specs.Rows.{IsRow}
use Rattle.ul_region.specs.Groups.{IsParting}
use Rattle.ul_split.specs.Split.{Decided, IsUnfit, AllFit, HasSplit, SplitsBy, IsUnsplit}
use Rattle.ul_split.specs.declared.split.Chosen.{Chosen}

-- a chosen node with its row
abbrev pub IsChosen : PassView → List DiagramMark → Chosen → Type 0
IsChosen h truths d = IsRow h d.node.now truths d.row.now

-- the decided node and its release
abbrev pub decided_of : Chosen → Decided
decided_of d = record { node = d.node.now; release = d.row.now.release.now }

-- the truth by which the region is split, or nothing splits it
abbrev pub SplitGives : PassView → Region → List Decided → Option DiagramMark → Type 0
SplitGives h R ds None = IsUnsplit R ds
SplitGives h R ds (Some t) = (truth : WorldFields → Bool) × SplitsBy R ds truth × IsTruth h t truth

-- the first release that isn't fit throughout, or each is
abbrev pub FitsBy : Region → List Chosen → List Decided → Option (Bor Chosen) → Type 0
FitsBy R xs ds None = AllFit R ds
FitsBy R xs ds (Some d) = Contains xs d.now × IsFirst (IsUnfit R) ds (decided_of d.now)

-- what parts the region at the first node that has a split group, or no node has one
abbrev pub GroupsBy : PassView → Region → List Decided → Option DiagramMark → Type 0
GroupsBy h R ds None = (d : Decided) → Contains ds d → HasSplit R d → ⊥
GroupsBy h R ds (Some t) = (d : Decided) × IsFirst (HasSplit R) ds d × ((q : RequirementFields) × IsParting d.release.requirements R d.node q × IsTruth h t (applies_at q d.node))

-- what parts the region at a decided node, or it has no split group
abbrev pub PartsAt : PassView → Region → Decided → Option DiagramMark → Type 0
PartsAt h R d None = HasSplit R d → ⊥
PartsAt h R d (Some t) = (q : RequirementFields) × IsParting d.release.requirements R d.node q × IsTruth h t (applies_at q d.node)
