use Rattle.std.proofs.lemmas.Option.{slice_get-get_or}
use Rattle.ul_forks.proofs.Picking.{named_more_at}
use Rattle.ul_forks.proofs.picks.named_picks.Goals as goal

pub loop-pick-preserved : goal.loop-pick-preserved
loop-pick-preserved c = named_more_at c.args.problem.now c.args.picks.now c.loop-pick.named.items c.push.new.self.items c.loop-pick.pick-index _ c.in_ok-one.one
    c.in_ok-push.ensures.items c.loop-pick.invariant c.in_ok-one.ensures (slice_get-get_or c.args.picks.now c.loop-pick.pick-index _ c.loop-pick-test.true)
