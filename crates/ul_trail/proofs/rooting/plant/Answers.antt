use Rattle.std.proofs.Common.{◌≡◌, ℕ, List, take, slice_get, Some, false, get_or, subst, sym, ◌∙◌}
use Rattle.std.proofs.lemmas.Option.{slice_get-get_or}
use Rattle.ul_problem.specs.Best.{Picks, is_decided}
use Rattle.ul_trail.specs.Roots.{root_picks}
use Rattle.ul_trail.proofs.Rooted.{root_undecided, facts_next, picks_next, queue_next}
use Rattle.ul_trail.proofs.rooting.plant.Goals as goal

pub plant_one-requires-clause-undecided : goal.plant_one-requires-clause-undecided
plant_one-requires-clause-undecided c =
    let whole = c.roots-roots.ensures.whole in
    subst (λ (d : Picks). is_decided (get_or c.roots-roots.result.now c.loop-place.place 0) d ≡ false) (sym c.loop-place.invariant.picks)
    (subst (λ (ns : List ℕ). slice_get ns c.loop-place.place ≡ Some (get_or c.roots-roots.result.now c.loop-place.place 0) → is_decided (get_or c.roots-roots.result.now c.loop-place.place 0) (root_picks (take c.loop-place.place ns)) ≡ false) (sym c.roots-roots.ensures.value)
    (root_undecided c.args.problem.now.roots c.loop-place.place (get_or c.roots-roots.result.now c.loop-place.place 0) whole.roots_increase)
    (slice_get-get_or c.roots-roots.result.now c.loop-place.place 0 c.loop-place-test.true))

pub loop-place-preserved : goal.loop-place-preserved
loop-place-preserved c =
    let e = slice_get-get_or c.roots-roots.result.now c.loop-place.place 0 c.loop-place-test.true in
    record {
      standing = c.in_ok-plant_one.ensures.standing;
      sizes = c.in_ok-plant_one.ensures.sizes ∙ c.loop-place.invariant.sizes;
      facts = facts_next c.args.problem.now c.roots-roots.result.now c.loop-place.place _ _ _ e c.loop-place.invariant.facts c.in_ok-plant_one.ensures.facts;
      picks = picks_next c.roots-roots.result.now c.loop-place.place _ _ _ e c.loop-place.invariant.picks c.in_ok-plant_one.ensures.picks;
      indexed = c.in_ok-plant_one.ensures.indexed;
      positions = c.in_ok-plant_one.ensures.positions ∙ c.loop-place.invariant.positions;
      queue = queue_next c.args.problem.now c.roots-roots.result.now c.loop-place.place _ _ _ e c.loop-place.invariant.queue c.in_ok-plant_one.ensures.queue;
    }
