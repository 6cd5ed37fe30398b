use Rattle.std.proofs.lemmas.Option.{slice_get-get_or}
use Rattle.ul_forks.specs.Picks.{IsTaken}
use Rattle.ul_forks.proofs.Picking.{one_more_at}
use Rattle.ul_forks.proofs.picks.chosen_of.Goals as goal

pub loop-pick-preserved : goal.loop-pick-preserved
loop-pick-preserved c = one_more_at (IsTaken c.args.prepared.now c.args.placed.now.problem) c.args.picks.now c.loop-pick.chosen.items c.push.new.self.items c.loop-pick.pick-index _ c.chosen_at.result
    c.in_ok-push.ensures.items c.loop-pick.invariant c.chosen_at.ensures (slice_get-get_or c.args.picks.now c.loop-pick.pick-index _ c.loop-pick-test.true)
