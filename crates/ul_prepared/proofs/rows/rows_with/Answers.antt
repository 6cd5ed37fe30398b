use Rattle.ul_base.proofs.ForCallers.{made_holds}
use Rattle.ul_prepared.specs.Shared.{IsRowOf}
use Rattle.ul_prepared.proofs.Zipped.{made_second}
use Rattle.ul_prepared.proofs.rows.rows_with.Goals as goal

pub loop-release-preserved : goal.loop-release-preserved
loop-release-preserved c =
    let more = c.in_ok-rows-2.ensures in
    let one = more.0 in
    made_second (IsRowOf c.args.asked.now) c.args.releases.now c.loop-release.rows.items c.in_ok-rows-2.rows.items c.loop-release.release-index c.release-item.result one
    more.2 c.loop-release.invariant (made_holds c.row_of.result one _ more.1 c.row_of.ensures) c.loop-release-test.true c.release-item.is
