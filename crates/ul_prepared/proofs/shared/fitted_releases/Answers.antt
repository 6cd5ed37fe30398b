use Rattle.std.proofs.Common.{ap, map, ◌∙◌}
use Rattle.std.proofs.lemmas.List.{take_all}
use Rattle.ul_base.proofs.ForCallers.{made_holds}
use Rattle.ul_region.proofs.ForCallers.{grown_then}
use Rattle.ul_prepared.specs.Lists.{listed_in}
use Rattle.ul_prepared.specs.Shared.{IsFitted, fitted_in}
use Rattle.ul_prepared.proofs.Loops.{images_more}
use Rattle.ul_prepared.proofs.SharedFacts.{fitted_more}
use Rattle.ul_prepared.proofs.shared.fitted_releases.Goals as goal

pub returns-in_err-list-2-clause-grown : goal.returns-in_err-list-2-clause-grown
returns-in_err-list-2-clause-grown g c = grown_then _ _ _ _ _ _ c.loop-listed.invariant.grown c.fit_release-one.ensures.grown

pub loop-listed-preserved : goal.loop-listed-preserved
loop-listed-preserved g c =
    let before = c.loop-listed.list.items in
    let after = c.in_ok-list-2.list.items in
    let more = c.in_ok-list-2.ensures in
    let one = more.0 in
    record {
      grown = grown_then _ _ _ _ _ _ c.loop-listed.invariant.grown c.fit_release-one.ensures.grown;
      fitted = fitted_more c.loop-listed.algebra c.fit_release-one.new.algebra c.loop-listed.truths.marks.items c.fit_release-one.new.truths.marks.items before after one
          more.2 c.fit_release-one.ensures.grown c.loop-listed.invariant.fitted (made_holds c.fit_release-one.result one (IsFitted c.fit_release-one.new.algebra c.fit_release-one.new.truths.marks.items) more.1 c.fit_release-one.ensures.fitted);
      listed = images_more fitted_in listed_in before after c.args.releases.now c.loop-listed.listed-index one c.listed-item.result
          more.2 c.loop-listed.invariant.listed (made_holds c.fit_release-one.result one _ more.1 c.fit_release-one.ensures.listed) c.loop-listed-test.true c.listed-item.is;
    }

pub returns-clause-listed : goal.returns-clause-listed
returns-clause-listed g c = c.loop-listed.invariant.listed ∙ ap (map listed_in) (take_all c.loop-listed.listed-index c.args.releases.now c.loop-listed-test.false)
