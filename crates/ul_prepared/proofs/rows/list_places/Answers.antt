use Rattle.std.proofs.Common.{◌∙◌, ap, map, refl}
use Rattle.std.proofs.lemmas.List.{take_all}
use Rattle.ul_prepared.specs.Shared.{list_in}
use Rattle.ul_prepared.proofs.Loops.{mapped_more}
use Rattle.ul_prepared.proofs.rows.list_places.Goals as goal

pub loop-release-preserved : goal.loop-release-preserved
loop-release-preserved c = mapped_more list_in c.args.releases.now c.loop-release.places.items _ c.loop-release.release-index c.release-item.result c.release-item.result.list
    c.in_ok-push.ensures.items c.loop-release.invariant refl c.loop-release-test.true c.release-item.is

pub returns : goal.returns
returns c = c.loop-release.invariant ∙ ap (map list_in) (take_all c.loop-release.release-index c.args.releases.now c.loop-release-test.false)
