use Rattle.std.proofs.Common.{ap, map, ◌∙◌}
use Rattle.std.proofs.lemmas.List.{take_all}
use Rattle.ul_base.proofs.ForCallers.{made_holds}
use Rattle.ul_prepared.specs.Lists.{lists_of, release_listed}
use Rattle.ul_prepared.proofs.ListPlaces.{listed_more}
use Rattle.ul_prepared.proofs.Loops.{images_more}
use Rattle.ul_prepared.proofs.releases.listed_releases.Goals as goal

pub loop-release-preserved : goal.loop-release-preserved
loop-release-preserved c =
    let before = c.loop-release.releases.items in
    let after = c.in_ok-releases-2.releases.items in
    let more = c.in_ok-releases-2.ensures in
    let one = more.0 in
    record {
      same = images_more release_listed (λ r. r.now) before after c.args.list.now c.loop-release.release-index one c.release-item.result
          more.2 c.loop-release.invariant.same (made_holds c.list_release-one.result one _ more.1 c.list_release-one.ensures.release) c.loop-release-test.true c.release-item.is;
      listed = listed_more (lists_of c.loop-release.lists.items) (lists_of c.list_release-one.new.lists.items) before after one more.2 c.list_release-one.ensures.stays c.loop-release.invariant.listed
          (made_holds c.list_release-one.result one _ more.1 c.list_release-one.ensures.listed);
    }

pub returns-clause-same : goal.returns-clause-same
returns-clause-same c = c.loop-release.invariant.same ∙ ap (map (λ r. r.now)) (take_all c.loop-release.release-index c.args.list.now c.loop-release-test.false)
