use Rattle.std.proofs.Common.{◌≡◌, Global, List, Vec, refl, ap, subst, sym, ◌∙◌}
use Rattle.std.specs.Prelude.{All}
use Rattle.std.proofs.lemmas.Result.{IfOk-weaker}
use Rattle.ul_base.proofs.ForCallers.{made_holds}
use Rattle.ul_interner.proofs.ForCallers.{knows_then}
use Rattle.ul_algebra.specs.Spelled.{tree_of}
use Rattle.ul_region.specs.Truths.{DiagramMark, IsRegion, IsTruth}
use Rattle.ul_region.proofs.ForCallers.{is_region, still}
use Rattle.ul_merge.specs.Edges.{MakesEdge, both_hold, leaves_in, picked, requirements_in}
use Rattle.ul_merge.proofs.EdgeFacts.{all_picked, both_within, edge_agrees, made_truth, places_of}
use Rattle.ul_lock_write.specs.Markers.{edge_marker}
use Rattle.ul_merge.specs.Over.{OrOver, markers_in}
use Rattle.ul_merge.proofs.HandedOn.{if_handed}
use Rattle.ul_merge.proofs.OverFacts.{or_over}
use Rattle.ul_merge.proofs.edges.edge_of.Goals as goal
use Rattle.ul_merge.proofs.edges.edge_of.Goals.{In_ok-kept, In_ok-truth}

-- the regions of the group's leaves
regions_are : (g : _) (c : In_ok-kept g) → c.in_ok-kept.kept.items ≡ picked c.args.regions.now (leaves_in c.args.group.now)
regions_are g c = places_of (λ u. u.leaf) _ _ _ _ _ c.as_slice.ensures.value c.in_ok-mine.ensures (ap (λ (v : Vec DiagramMark Global). v.items) c.in_ok-kept.ensures.0)

-- the truths of its requirements
truths_are : (g : _) (c : In_ok-kept g) → c.in_ok-kept.holds.items ≡ picked c.args.truths.now (requirements_in c.args.group.now)
truths_are g c = places_of (λ u. u.requirement) _ _ _ _ _ c.as_slice-2.ensures.value (made_holds c.truths_at.result c.in_ok-kept.holds _ c.in_ok-kept.ensures.1 c.truths_at.ensures) refl

pub truth_in-truth-requires-clause-regions : goal.truth_in-truth-requires-clause-regions
truth_in-truth-requires-clause-regions g c = subst (All (IsRegion c.args.algebra.now)) (sym (c.as_slice-3.ensures.value ∙ regions_are g (goal.at.truth_in-truth-requires-clause-regions g c).In_ok-kept))
    (all_picked (IsRegion c.args.algebra.now) c.args.regions.now (leaves_in c.args.group.now) c.requires.regions)

pub truth_in-truth-requires-clause-truths : goal.truth_in-truth-requires-clause-truths
truth_in-truth-requires-clause-truths g c = subst (All (IsRegion c.args.algebra.now)) (sym (c.as_slice-4.ensures.value ∙ truths_are g (goal.at.truth_in-truth-requires-clause-truths g c).In_ok-kept))
    (all_picked (IsRegion c.args.algebra.now) c.args.truths.now (requirements_in c.args.group.now) c.requires.truths)

-- where the edge is true
truth_is : (g : _) (c : In_ok-truth g) → IsTruth c.truth_in-truth.new.algebra c.in_ok-truth.truth (both_hold c.as_slice-3.result.now c.as_slice-4.result.now)
truth_is g c = made_holds c.truth_in-truth.result c.in_ok-truth.truth _ c.in_ok-truth.ensures c.truth_in-truth.ensures.truth

pub edge_to-edge-requires-clause-truth : goal.edge_to-edge-requires-clause-truth
edge_to-edge-requires-clause-truth g c = is_region _ _ _ (truth_is g (goal.at.edge_to-edge-requires-clause-truth g c).In_ok-truth)

pub edge_to-edge-requires-clause-within : goal.edge_to-edge-requires-clause-within
edge_to-edge-requires-clause-within g c = both_within _ _ _ c.args.regions.now c.as_slice-4.result.now (leaves_in c.args.group.now) c.requires.within
    (subst (λ (ms : List DiagramMark). IsTruth c.truth_in-truth.new.algebra c.in_ok-truth.truth (both_hold ms c.as_slice-4.result.now)) (c.as_slice-3.ensures.value ∙ regions_are g (goal.at.edge_to-edge-requires-clause-within g c).In_ok-kept) (truth_is g (goal.at.edge_to-edge-requires-clause-within g c).In_ok-truth))

pub edge_to-edge-requires-clause-supported : goal.edge_to-edge-requires-clause-supported
edge_to-edge-requires-clause-supported g c = still _ _ _ c.truth_in-truth.ensures.knows c.requires.supported

pub returns-clause-knows : goal.returns-clause-knows
returns-clause-knows g c = knows_then _ _ _ c.truth_in-truth.ensures.knows c.edge_to-edge.ensures.knows

pub returns-clause-edge : goal.returns-clause-edge
returns-clause-edge g c =
    let at = goal.at.returns-clause-edge g c in
    let same = made_truth _ _ _ _ _ _ (c.as_slice-3.ensures.value ∙ regions_are g at.In_ok-kept) (c.as_slice-4.ensures.value ∙ truths_are g at.In_ok-kept) (truth_is g at.In_ok-truth) in
    let Makes = MakesEdge c.args.regions.now c.args.truths.now (tree_of c.args.supported.now) c.args.group.now in
    let Whole = OrOver (markers_in edge_marker) Makes in
    if_handed c.edge_to-edge.result c.made_from-2.result Whole c.made_from-2.ensures
    (IfOk-weaker c.edge_to-edge.result _ Whole (λ r k. or_over (markers_in edge_marker) _ Makes (λ o e. edge_agrees _ _ _ _ _ o same e) r k) c.edge_to-edge.ensures.edge)
