use Rattle.std.proofs.Common.{◌≡◌, ℕ, ap, arith, drop, ◌∙◌}
use Rattle.ul_merge.specs.Chosen.{first_of}
use Rattle.ul_merge.proofs.Places.{places_more}
use Rattle.ul_merge.proofs.choices.places_of.Goals as goal

pub loop-place-preserved : goal.loop-place-preserved
loop-place-preserved c u =
    places_more _ _ _ c.index-picks-place.result c.node_number.result u _ _ (omega arith) (omega arith) c.index-picks-place.is
    c.node_number.ensures (c.in_ok-insert.ensures.updates.0 u) (c.loop-place.invariant u)

pub returns : goal.returns
returns c u =
    let first : c.loop-place.place ≡ 0 = omega (arith, c.loop-place-test.false) in
    c.loop-place.invariant u ∙ ap (λ (k : ℕ). first_of (drop k c.args.picks.now) u) first
