use Rattle.std.proofs.Common.{◌∙◌}
use Rattle.std.proofs.lemmas.List.{map-append}
use Rattle.std.specs.Str.{bytes_eq}
use Rattle.indexmap.specs.IndexSet.{insert_key}
use Rattle.ul_requirement.specs.Fields.{ReleaseFields, RequirementFields}
use Rattle.ul_load.specs.Loading.{names_of}
use Rattle.ul_load.proofs.Sets.{fold_next}
use Rattle.ul_load.proofs.met.meet_releases.Goals as goal

pub loop-release-preserved : goal.loop-release-preserved
loop-release-preserved c =
    fold_next (insert_key bytes_eq) names_of (λ (r : ReleaseFields). r.requirements) (map-append (λ (q : RequirementFields). q.name))
    c.args.releases.now c.loop-release.release-index c.release-item.result c.meet_release.new.names.keys c.loop-release.names.keys
    c.loop-release-test.true c.release-item.is c.in_ok-meet_release.ensures
    ∙ c.loop-release.invariant
