-- Regions that are simplified.
use Rattle.std.specs.Prelude.{◌≡◌, true}
use Rattle.ul_comparison.specs.Worlds.{WorldFields}
use Rattle.ul_region.specs.Truths.{PassView, DiagramMark, IsRegion, region_at}
use Rattle.ul_merge.specs.Views.{ForkLeaf}

-- both regions have some world
abbrev pub MeetSomewhere : DiagramMark → DiagramMark → Type 0
MeetSomewhere a b = (w : WorldFields) × (region_at a w ≡ true) × (region_at b w ≡ true)

-- the leaf's diagram stands for a region, which has a world of the supported one
abbrev pub IsForkIn : PassView → DiagramMark → ForkLeaf → Type 0
IsForkIn h supported l = IsRegion h l.region × MeetSomewhere l.region supported
