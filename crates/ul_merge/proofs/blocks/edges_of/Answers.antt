use Rattle.std.proofs.Common.{ap, map, refl, subst, sym, ◌∙◌}
use Rattle.std.specs.Prelude.{All, flat_map}
use Rattle.ul_interner.proofs.ForCallers.{knows_then}
use Rattle.ul_region.specs.Truths.{IsRegion}
use Rattle.ul_region.proofs.ForCallers.{still}
use Rattle.ul_region.specs.Rows.{asked_at}
use Rattle.ul_lock_write.specs.Markers.{edge_marker}
use Rattle.ul_sound.specs.Merged.{AreEdgesOf}
use Rattle.ul_merge.specs.Blocks.{catalog_in, leaves_in, supported_in}
use Rattle.ul_merge.specs.Edges.{MakesEdge}
use Rattle.ul_merge.specs.Keys.{pick_of}
use Rattle.ul_merge.specs.Made.{AreMade}
use Rattle.ul_merge.specs.Over.{OrOver, items_in}
use Rattle.ul_merge.proofs.BlockFacts.{edges_are}
use Rattle.ul_merge.proofs.OverFacts.{or_over}
use Rattle.ul_merge.proofs.HandedOn.{twice_handed}
use Rattle.ul_merge.proofs.EdgeFacts.{regions_still, truths_regions}
use Rattle.ul_merge.proofs.blocks.edges_of.Goals as goal

pub made_edges-edges-requires-clause-supported : goal.made_edges-edges-requires-clause-supported
made_edges-edges-requires-clause-supported g c = still _ _ _ c.in_ok-truths.ensures.knows c.requires.sources.supported

pub made_edges-edges-requires-clause-regions : goal.made_edges-edges-requires-clause-regions
made_edges-edges-requires-clause-regions g c = regions_still _ _ _ c.in_ok-truths.ensures.knows c.requires.sources.regions

pub made_edges-edges-requires-clause-truths : goal.made_edges-edges-requires-clause-truths
made_edges-edges-requires-clause-truths g c = subst (All (IsRegion c.truths_of.new.algebra)) (sym c.as_slice-2.ensures.value) (truths_regions _ c.args.pick.now.node.now (map (λ q. q.now) c.as_slice-asked.result.now) _ c.in_ok-truths.ensures.truths)

pub returns-in_err-edges-clause-knows : goal.returns-in_err-edges-clause-knows
returns-in_err-edges-clause-knows g c = knows_then _ _ _ c.in_ok-truths.ensures.knows c.made_edges-edges.ensures.knows

pub returns-clause-knows : goal.returns-clause-knows
returns-clause-knows g c = knows_then _ _ _ c.in_ok-truths.ensures.knows c.made_edges-edges.ensures.knows

pub returns-clause-edges : goal.returns-clause-edges
returns-clause-edges g c =
    let s = c.args.sources.now in
    let asked = ap (map (λ q. q.now)) c.as_slice-asked.ensures.value ∙ c.in_ok-kept.ensures ∙ ap (asked_at c.args.pick.now.node.now) c.requires.required in
    let Are = AreEdgesOf (catalog_in s) (leaves_in s) (supported_in s) (pick_of c.args.pick.now) in
    subst (OrOver (flat_map edge_marker) Are) (sym c.edges_in.ensures)
    (or_over (flat_map edge_marker) (AreMade (MakesEdge s.regions.now c.as_slice-2.result.now (supported_in s)) c.as_slice-3.result.now) Are
    (λ eds made. edges_are s c.args.pick.now c.truths_of.new.algebra c.args.algebra.now c.args.users.now (map (λ q. q.now) c.as_slice-asked.result.now) c.in_ok-truths.truths.items c.as_slice-2.result.now
    c.in_ok-aims.aims.items c.as_slice.result.now c.in_ok-groups.groups.items c.as_slice-3.result.now eds eds
    c.eligible_rises.ensures c.unnamed_never_applies.ensures c.requires.sources c.requires.users asked c.in_ok-truths.ensures.truths
    c.in_ok-aims.ensures c.as_slice.ensures.value c.in_ok-groups.ensures c.as_slice-2.ensures.value c.as_slice-3.ensures.value made refl) (items_in c.in_ok-edges.edges)
    (twice_handed c.made_edges-edges.result c.made_from.result c.in_ok-edges.edges _ c.in_ok-edges.ensures c.made_from.ensures c.made_edges-edges.ensures.edges))
