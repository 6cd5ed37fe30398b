use Rattle.ul_merge.proofs.ReleaseFacts.{differ_more}
use Rattle.ul_merge.proofs.releases.each_differs.Goals as goal

pub loop-one-preserved : goal.loop-one-preserved
loop-one-preserved c = differ_more _ _ _ c.loop-one-test.true c.one-item.is c.loop-one.invariant c.releases-releases.ensures.differ
