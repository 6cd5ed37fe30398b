use Rattle.std.proofs.Common.{◌≡◌, ap, map, subst, sym, ◌∙◌}
use Rattle.std.specs.Prelude.{flat_map}
use Rattle.ul_base.proofs.ForCallers.{made_holds}
use Rattle.ul_interner.proofs.ForCallers.{knows_then}
use Rattle.ul_nodes.specs.Plain.{Plain}
use Rattle.ul_algebra.specs.Spelled.{tree_of}
use Rattle.ul_region.proofs.ForCallers.{still}
use Rattle.ul_sound.specs.Merged.{AreBlocks, AreForks}
use Rattle.ul_lock_write.specs.Markers.{fork_marker, package_markers}
use Rattle.ul_merge.specs.Over.{OrOver}
use Rattle.ul_merge.specs.Views.{leaf_of}
use Rattle.ul_merge.proofs.HandedOn.{twice_handed}
use Rattle.ul_merge.proofs.PackageFacts.{region_is}
use Rattle.ul_merge.proofs.WholeParts.{lock_over}
use Rattle.ul_merge.proofs.SourceFacts.{leaves_forks, leaves_still}
use Rattle.ul_merge.proofs.merging.merge.Goals as goal

pub fork_regions-requires-clause-leaves : goal.fork_regions-requires-clause-leaves
fork_regions-requires-clause-leaves g c = leaves_forks _ _ c.args.catalog.now c.args.project.now _ _ c.in_ok-supported.ensures.knows c.in_ok-supported.ensures.tree c.requires.leaves

pub marker_of-region-requires-clause-diagram : goal.marker_of-region-requires-clause-diagram
marker_of-region-requires-clause-diagram g c = still _ _ _ c.in_ok-forks.ensures.knows c.in_ok-supported.ensures.diagram

pub marker_of-region-requires-clause-region : goal.marker_of-region-requires-clause-region
marker_of-region-requires-clause-region g c = region_is _ c.args.project.now.region c.in_ok-supported.ensures.tree c.supported_of.ensures.project.region c.supported_of.ensures.project.some

pub packages_of-packages-requires-clause-supported : goal.packages_of-packages-requires-clause-supported
packages_of-packages-requires-clause-supported g c κs within = still _ _ _ c.in_ok-forks.ensures.knows c.in_ok-supported.ensures.diagram

pub packages_of-packages-requires-clause-leaves : goal.packages_of-packages-requires-clause-leaves
packages_of-packages-requires-clause-leaves g c κs within = leaves_still _ _ c.args.catalog.now c.args.project.now _ (knows_then _ _ _ c.in_ok-supported.ensures.knows c.in_ok-forks.ensures.knows) c.requires.leaves

pub returns : goal.returns
returns g c =
    let project = c.args.project.now in
    let leaves = map leaf_of c.args.leaves.now in
    let tree = c.in_ok-supported.ensures.tree in
    let kept = c.in_ok-kept.ensures.0 in
    let region = subst (OrOver fork_marker (λ (t : Plain). t ≡ tree_of c.in_ok-supported.supported)) (sym (ap (λ z. z.1) kept))
    (made_holds c.marker_of-region.result c.in_ok-forks-2.region _ c.in_ok-forks-2.ensures.1 c.marker_of-region.ensures.marker) in
    let forks = subst (OrOver (flat_map fork_marker) (AreForks (tree_of c.in_ok-supported.supported) leaves)) (sym (ap (λ z. z.0) kept ∙ c.in_ok-forks-2.ensures.0)) c.in_ok-forks.ensures.forks in
    let packages = twice_handed c.packages_of-packages.result c.made_from-packages.result c.in_ok-kept.packages (OrOver (flat_map package_markers) (AreBlocks c.args.catalog.now project leaves))
    c.in_ok-kept.ensures.1 c.made_from-packages.ensures c.packages_of-packages.ensures in
    lock_over c.args.catalog.now project leaves c.in_ok-kept.kept.1 c.in_ok-kept.kept.0 c.in_ok-kept.packages c.both-rows.result c.both.result c.in_ok-lock.lock
    (subst (λ (s : Plain). OrOver fork_marker (λ (t : Plain). t ≡ s) c.in_ok-kept.kept.1) tree region)
    (subst (λ (s : Plain). OrOver (flat_map fork_marker) (AreForks s leaves) c.in_ok-kept.kept.0) tree forks)
    packages c.both-rows.ensures c.both.ensures c.in_ok-lock.ensures
