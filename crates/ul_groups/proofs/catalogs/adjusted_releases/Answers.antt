use Rattle.std.proofs.Common.{◌∙◌, ap, arith}
use Rattle.ul_requirement.specs.Fields.{ReleaseFields}
use Rattle.ul_groups.specs.Adjusted.{adjusted_release}
use Rattle.ul_groups.specs.NameLists.{at_name}
use Rattle.ul_groups.proofs.AdjustedLists.{release_adjusted}
use Rattle.ul_groups.proofs.MadeLists.{made_all, made_next}
use Rattle.ul_groups.proofs.catalogs.adjusted_releases.Goals as goal

pub loop-release-preserved : goal.loop-release-preserved
loop-release-preserved c =
    let cs = at_name c.args.constraints.now.entries in
    let os = at_name c.args.overrides.now.entries in
    let ss = at_name c.args.sources.now.entries in
    let one = release_adjusted cs os ss c.release-item.result c.in_ok-made-2.made c.as_slice-requirements.result.now c.with_requirements.result
    c.in_ok-made-2.ensures (c.as_slice-requirements.ensures ∙ ap (λ (r : ReleaseFields). r.requirements) c.release.view_is)
    c.with_requirements.ensures in (
      made_next (adjusted_release cs os ss) c.args.releases.now _ _ c.loop-release.release-index c.release-item.result c.with_requirements.result
          c.in_ok-list-2.ensures one c.loop-release-test.true c.release-item.is c.loop-release.invariant.0,
      c.in_ok-made-2.ensures,
    )

pub returns : goal.returns
returns c =
    made_all (adjusted_release (at_name c.args.constraints.now.entries) (at_name c.args.overrides.now.entries) (at_name c.args.sources.now.entries)) c.args.releases.now _
    c.loop-release.release-index (omega arith) c.loop-release.invariant.0
