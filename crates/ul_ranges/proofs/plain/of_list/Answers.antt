use Rattle.ul_ranges.proofs.FlagLaws.{set_more}
use Rattle.ul_ranges.proofs.plain.of_list.Goals as goal

pub loop-number-preserved : goal.loop-number-preserved
loop-number-preserved c =
    rw (c.in_ok-push.ensures.items, c.loop-number.invariant, c.contains.ensures.value) (set_more c.loop-number.number-counter c.args.members.now)
