-- The two parts of a region's diagram.
use Rattle.std.specs.Prelude.{Bool, not}
use Rattle.ul_comparison.specs.Worlds.{WorldFields}
use Rattle.ul_tree.specs.Regions.{HasTruth}
use Rattle.ul_algebra.specs.Spelled.{tree_of}
use Rattle.ul_region.specs.Truths.{DiagramMark, PassView, IsTruth, region_at, truth_within}

-- a diagram is where a truth holds in a region
abbrev pub IsPart : PassView → DiagramMark → (WorldFields → Bool) → DiagramMark → Type 0
IsPart h region p d = IsTruth h d (truth_within (region_at region) p)

-- the first is the region where the truth of a diagram holds, the second the region where it doesn't
abbrev pub PartsBy : PassView → DiagramMark → DiagramMark → DiagramMark → DiagramMark → Type 0
PartsBy h region truth first second = (p : WorldFields → Bool) → HasTruth (tree_of truth) p
    → IsPart h region p first × IsPart h region (λ w. not (p w)) second
