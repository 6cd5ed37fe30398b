use Rattle.std.proofs.Common.{◌∙◌, ap, refl, sym, subst}
use Rattle.ul_problem.specs.Plain.{Plain}
use Rattle.ul_region.specs.Problem.{IsProblemOf}
use Rattle.ul_region.specs.Truths.{region_at}
use Rattle.ul_placing.specs.Placed.{ArePlaced}
use Rattle.ul_placing.specs.Ranks.{places_from}
use Rattle.ul_placing.proofs.Standing.{nodes_placed}
use Rattle.ul_placing.proofs.Whole.{problem_by}
use Rattle.ul_placing.proofs.placing.problem_in.Goals as goal

pub of-problem-requires : goal.of-problem-requires
of-problem-requires c = (problem_by c.unnamed_never_applies.ensures c.args.algebra.now (region_at c.args.place.now.region.now) c.args.prepared.now c.in_ok-reach.reach.aims.items c.as_slice.result.now c.in_ok-reach.reach.aims.items c.in_ok-ranks.ranks.items c.as_slice-3.result.now c.as_slice-4.result.now c.as_slice-5.result.now
    c.in_ok-roots.roots.items c.in_ok-nodes.nodes.items c.requires.prepared c.requires.project c.in_ok-reach.ensures c.as_slice.ensures.value refl c.as_slice-3.ensures.value c.as_slice-4.ensures.value c.as_slice-5.ensures.value
    c.in_ok-ranks.ensures c.in_ok-nodes.ensures c.in_ok-roots.ensures).well_formed

pub returns-clause-problem : goal.returns-clause-problem
returns-clause-problem c = subst (λ (p : Plain). IsProblemOf c.args.prepared.now.catalog.now c.args.prepared.now.starts.now c.args.prepared.now.wish.now (region_at c.args.place.now.region.now) p) (sym c.of-problem.ensures)
    (problem_by c.unnamed_never_applies.ensures c.args.algebra.now (region_at c.args.place.now.region.now) c.args.prepared.now c.in_ok-reach.reach.aims.items c.as_slice.result.now c.in_ok-reach.reach.aims.items c.in_ok-ranks.ranks.items c.as_slice-3.result.now c.as_slice-4.result.now c.as_slice-5.result.now
    c.in_ok-roots.roots.items c.in_ok-nodes.nodes.items c.requires.prepared c.requires.project c.in_ok-reach.ensures c.as_slice.ensures.value refl c.as_slice-3.ensures.value c.as_slice-4.ensures.value c.as_slice-5.ensures.value
    c.in_ok-ranks.ensures c.in_ok-nodes.ensures c.in_ok-roots.ensures)

pub returns-clause-places : goal.returns-clause-places
returns-clause-places c = subst (λ (p : Plain). ArePlaced c.args.prepared.now p c.in_ok-places.places.items) (sym c.of-problem.ensures)
    (nodes_placed c.args.algebra.now (region_at c.args.place.now.region.now) c.args.prepared.now c.as_slice-3.result.now c.in_ok-reach.reach.aims.items c.in_ok-roots.roots.items c.in_ok-places.places.items c.in_ok-nodes.nodes.items
    c.requires.prepared c.in_ok-nodes.ensures (c.in_ok-places.ensures ∙ ap (places_from 0) (c.as_slice-2.ensures.value)))
