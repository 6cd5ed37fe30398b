use Rattle.std.proofs.Common.{◌≡◌, ℕ, ◌++◌, ◌∷◌, [], slice_set, length, arith, subst, sym}
use Rattle.ul_problem.specs.Best.{Picks}
use Rattle.ul_trail.specs.Kept.{IsIndexed}
use Rattle.ul_trail.proofs.Decisions.{indexed_push}
use Rattle.ul_trail.proofs.asking.pick.Goals as goal

pub returns-clause-indexed : goal.returns-clause-indexed
returns-clause-indexed c =
    let count : c.len.result ≡ length c.args.picks.now.items = (let y = c.len.ensures in omega arith) in
    subst (λ (d : Picks). IsIndexed d (slice_set c.args.positions.now.items c.args.pick.0 c.len.result)) (sym c.in_ok-push.ensures.items)
    (subst (λ (j : ℕ). IsIndexed (c.args.picks.now.items ++ c.args.pick ∷ []) (slice_set c.args.positions.now.items c.args.pick.0 j)) (sym count)
    (indexed_push c.args.picks.now.items c.args.positions.now.items c.args.pick.0 c.args.pick.1 c.requires.indexed c.requires.undecided c.requires.there))
