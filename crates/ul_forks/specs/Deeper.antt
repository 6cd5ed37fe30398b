-- What the code finds of a region that nothing serves: where its core splits it.
use Rattle.std.specs.Prelude.{◌≡◌, Bool, Option, Some, None}
use Rattle.ul_base.specs.declared.node.Node.{Node}
use Rattle.ul_comparison.specs.Worlds.{WorldFields}
use Rattle.ul_requirement.specs.Fields.{RequirementFields}
use Rattle.ul_requirement.specs.Truth.{applies_at}
use Rattle.ul_problem.specs.Plain.{Plain as Problem}
use Rattle.ul_index.specs.Catalogs.{Packages}
use Rattle.ul_index.specs.Regions.{Region, Throughout}
use Rattle.ul_blame.specs.declared.needs.CoreNeed.{CoreNeed}
use Rattle.ul_algebra.specs.Spelled.{tree_of}
use Rattle.ul_region.specs.Asked.{IsInRegion}
use Rattle.ul_region.specs.Problem.{IsProblemOf}
use Rattle.ul_region.specs.Truths.{PassView, DiagramMark, IsTruth, region_at}
use Rattle.ul_region.specs.declared.in_region.InRegion.{InRegion}
use Rattle.ul_prepared.specs.Prepared.{IsPrepared}
use Rattle.ul_prepared.specs.declared.prepared.Prepared.{Prepared}
use Rattle.ul_placing.specs.Placed.{ArePlaced}
use Rattle.ul_placing.specs.declared.placing.Placed.{Placed}
use Rattle.ul_split.specs.CoreSplit.{IsAskedBy, IsFailing}
use Rattle.ul_forks.specs.Outcome.{Question, IsSplitByCore, IsUnsplitByCore}
use Rattle.ul_forks.specs.Picks.{HasPick}

-- the problem of a region with the places of its nodes, from what all regions share
pub record IsPlaced (h : PassView) (shared : Prepared) (s : InRegion) (placed : Placed) : Type 0 where
  pub prepared : IsPrepared h shared
  pub place : IsInRegion h s
  pub truths : s.truths.now ≡ shared.truths.marks.items
  pub problem : IsProblemOf shared.catalog.now shared.starts.now shared.wish.now (region_at s.region.now) placed.problem
  pub places : ArePlaced shared placed.problem placed.places.items

-- the need is of a version of a node of the problem
abbrev pub HasVersion : Problem → CoreNeed → Type 0
HasVersion p k = HasPick p (k.node, k.version)

-- the truth of what a need comes from, where it fails at some world of the region; or it is true at every world of it
abbrev pub NeedGives : PassView → Packages → Region → Problem → CoreNeed → Option DiagramMark → Type 0
NeedGives h c R p k None = (n : Node) (q : RequirementFields) → IsAskedBy c R p k n q → Throughout R (applies_at q n)
NeedGives h c R p k (Some t) = (f : IsFailing c R p k) × IsTruth h t (applies_at f.requirement f.node)

-- the truth by which a region that nothing serves is split, or no core splits it
abbrev pub SplitsDeeper : PassView → Question → DiagramMark → Option DiagramMark → Type 0
SplitsDeeper h q region None = IsUnsplitByCore q (tree_of region)
SplitsDeeper h q region (Some t) = (truth : WorldFields → Bool)
    × IsSplitByCore q (tree_of region) truth × IsTruth h t truth
