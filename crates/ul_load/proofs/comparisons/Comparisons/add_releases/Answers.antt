use Rattle.std.proofs.Common.{◌∙◌}
use Rattle.std.proofs.lemmas.Grind.{flat_map-append}
use Rattle.std.specs.BTreeSet.{insert_key}
use Rattle.ul_comparison.specs.Atoms.{atom_cmp}
use Rattle.ul_requirement.specs.Fields.{ReleaseFields}
use Rattle.ul_requirement.specs.Truth.{atoms_of_requirement}
use Rattle.ul_load.specs.Loading.{atoms_in}
use Rattle.ul_load.proofs.Sets.{fold_next}
use Rattle.ul_load.proofs.comparisons.Comparisons.add_releases.Goals as goal

pub loop-release-preserved : goal.loop-release-preserved
loop-release-preserved c =
    fold_next (insert_key atom_cmp) atoms_in (λ (r : ReleaseFields). r.requirements) (flat_map-append atoms_of_requirement)
    c.args.releases.now c.loop-release.release-index c.release-item.result _ _ c.loop-release-test.true c.release-item.is c.in_ok-add_release.ensures
    ∙ c.loop-release.invariant
