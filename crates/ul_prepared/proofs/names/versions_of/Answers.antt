use Rattle.std.proofs.lemmas.List.{take_all}
use Rattle.std.proofs.Common.{ap, map, ◌∙◌}
use Rattle.ul_base.proofs.ForCallers.{made_holds}
use Rattle.ul_prepared.proofs.Loops.{mapped_more}
use Rattle.ul_prepared.proofs.names.versions_of.Goals as goal

pub loop-release-preserved : goal.loop-release-preserved
loop-release-preserved c =
    let more = c.in_ok-versions-2.ensures in
    mapped_more (λ r. r.now.version) c.args.releases.now c.loop-release.versions.items c.in_ok-versions-2.versions.items c.loop-release.release-index c.release-item.result more.0
    more.2 c.loop-release.invariant (made_holds c.version_of.result more.0 _ more.1 c.version_of.ensures) c.loop-release-test.true c.release-item.is

pub returns : goal.returns
returns c = c.loop-release.invariant ∙ ap (map (λ r. r.now.version)) (take_all c.loop-release.release-index c.args.releases.now c.loop-release-test.false)
