-- The two parts of a region have their truths.
use Rattle.std.proofs.Common.{◌≡◌, ◌∙◌, Bool, true, false, not, ◌&&◌, refl, ap, ap₂}
use Rattle.ul_comparison.specs.Worlds.{WorldFields}
use Rattle.ul_nodes.specs.Apply.{both}
use Rattle.ul_tree.specs.Regions.{HasTruth}
use Rattle.ul_algebra.specs.Answers.{IsDiagram}
use Rattle.ul_algebra.specs.Spelled.{tree_of}
use Rattle.ul_algebra.specs.Truths.{HoldsJoined, HoldsNegated}
use Rattle.ul_region.specs.Truths.{DiagramMark, PassView, IsTruth, region_at, truth_within}

both_and : (a b : Bool) → both a b ≡ (a && b)
both_and true b = refl
both_and false b = refl

-- where a region and a truth hold
pub joined_truth : (h : PassView) (r t d : DiagramMark) (p : WorldFields → Bool) → HasTruth (tree_of r) (region_at r) → HasTruth (tree_of t) p → IsDiagram h d → HoldsJoined both r t d → IsTruth h d (truth_within (region_at r) p)
joined_truth h r t d p region truth known joined = record {
  diagram = known;
  truth = record { reduced = known.reduced; truth = λ w x is. joined w x ∙ (ap₂ both (region.truth w x is) (truth.truth w x is) ∙ both_and (region_at r w) (p w)) };
}

-- where a truth doesn't hold
pub negated_truth : (h : PassView) (t d : DiagramMark) (p : WorldFields → Bool) → HasTruth (tree_of t) p → IsDiagram h d → HoldsNegated t d → HasTruth (tree_of d) (λ w. not (p w))
negated_truth h t d p truth known negated = record { reduced = known.reduced; truth = λ w x is. negated w x ∙ ap not (truth.truth w x is) }
