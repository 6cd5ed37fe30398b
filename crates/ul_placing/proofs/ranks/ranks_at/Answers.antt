use Rattle.std.proofs.Common.{ℕ, ap, get_or, map, ◌∙◌}
use Rattle.std.proofs.lemmas.List.{get_or_default, take_all}
use Rattle.ul_placing.proofs.Lists.{mapped_more}
use Rattle.ul_placing.proofs.ranks.ranks_at.Goals as goal

pub loop-place-preserved : goal.loop-place-preserved
loop-place-preserved c = let x : ℕ = get_or c.args.places.now c.loop-place.place-index 0 in
    mapped_more (λ (k : ℕ). get_or c.args.ranks.now k 0) c.args.places.now c.loop-place.list.items c.push.new.self.items c.loop-place.place-index x c.rank_at.result
    c.in_ok-push.ensures.items c.loop-place.invariant c.rank_at.ensures c.loop-place-test.true (get_or_default c.args.places.now c.loop-place.place-index 0 x c.loop-place-test.true)

pub returns : goal.returns
returns c = c.loop-place.invariant ∙ ap (map (λ (k : ℕ). get_or c.args.ranks.now k 0)) (take_all c.loop-place.place-index c.args.places.now c.loop-place-test.false)
