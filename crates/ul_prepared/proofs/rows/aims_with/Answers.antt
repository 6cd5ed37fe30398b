use Rattle.ul_base.proofs.ForCallers.{made_holds}
use Rattle.ul_prepared.specs.Shared.{IsOfList}
use Rattle.ul_prepared.proofs.Zipped.{made_second}
use Rattle.ul_prepared.proofs.rows.aims_with.Goals as goal

pub loop-release-preserved : goal.loop-release-preserved
loop-release-preserved c =
    let more = c.in_ok-list-2.ensures in
    let one = more.0 in
    made_second (IsOfList c.args.aims.now) c.args.releases.now c.loop-release.list.items c.in_ok-list-2.list.items c.loop-release.release-index c.release-item.result one
    more.2 c.loop-release.invariant (made_holds c.copy_at.result one _ more.1 c.copy_at.ensures) c.loop-release-test.true c.release-item.is
