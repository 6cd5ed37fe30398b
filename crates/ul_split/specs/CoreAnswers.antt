-- What the code answers of a need's requirement, as diagrams.
use Rattle.std.specs.Prelude.{ℕ, List, Bool, not, Option, Some, None}
use Rattle.std.specs.Borrow.{Bor}
use Rattle.ul_comparison.specs.Worlds.{WorldFields}
use Rattle.ul_requirement.specs.Fields.{RequirementFields}
use Rattle.ul_requirement.specs.Truth.{applies_at}
use Rattle.ul_problem.specs.Plain.{Plain}
use Rattle.ul_index.specs.Applied.{IsFirm}
use Rattle.ul_index.specs.Catalogs.{Packages}
use Rattle.ul_index.specs.Regions.{Region, Somewhere, Throughout}
use Rattle.ul_region.specs.Asked.{HasAsked, asked_of, region_asked}
use Rattle.ul_region.specs.Truths.{PassView, DiagramMark, IsTruth}
use Rattle.ul_region.specs.declared.rows.Asked.{Asked}
use Rattle.ul_region.specs.declared.at_node.AtNode.{AtNode}
use Rattle.ul_blame.specs.declared.needs.CoreNeed.{CoreNeed}
use Rattle.ul_split.specs.Origins.{ComesFrom}
use Rattle.ul_split.specs.CoreSplit.{CoreSplit, HoldsThroughout}

-- the requirement of the release that the need at a place comes from
abbrev pub IsOrigin : AtNode → ℕ → RequirementFields → Type 0
IsOrigin s place q = ComesFrom (IsFirm (asked_of s) (region_asked s) s.node.now) (asked_of s) place q

-- the requirement that the need at a place comes from, or it comes from none
abbrev pub OriginAt : AtNode → ℕ → Option (Bor Asked) → Type 0
OriginAt s place None = (q : RequirementFields) → IsOrigin s place q → ⊥
OriginAt s place (Some a) = HasAsked s a.now × IsOrigin s place a.now.requirement.now

-- the requirement fails at some world of the region
abbrev pub IsFalseSomewhere : AtNode → Asked → Type 0
IsFalseSomewhere s a = Somewhere (region_asked s) (λ w. not (applies_at a.requirement.now s.node.now w))

-- the truth of the requirement that the need at a place comes from, where it fails at some world of the region; or
-- what the need comes from is true at every world of it
abbrev pub FailsAt : PassView → AtNode → ℕ → Option (Bor DiagramMark) → Type 0
FailsAt h s place None = (q : RequirementFields) → IsOrigin s place q
    → Throughout (region_asked s) (applies_at q s.node.now)
FailsAt h s place (Some t) = (q : RequirementFields) × IsOrigin s place q
    × Somewhere (region_asked s) (λ w. not (applies_at q s.node.now w)) × IsTruth h t.now (applies_at q s.node.now)

-- the truth by which a core splits its region, or the core holds throughout
abbrev pub CoreGives : PassView → Packages → Region → Plain → List CoreNeed → Option DiagramMark → Type 0
CoreGives h c R p core None = HoldsThroughout c R p core
CoreGives h c R p core (Some t) = (truth : WorldFields → Bool) × CoreSplit c R p core truth × IsTruth h t truth
