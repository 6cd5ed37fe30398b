use Rattle.std.proofs.Common.{map, refl, subst, sym, ◌∙◌}
use Rattle.ul_base.proofs.ForCallers.{made_holds}
use Rattle.std.specs.Prelude.{flat_map}
use Rattle.ul_lock_write.specs.Markers.{package_markers}
use Rattle.ul_sound.specs.Merged.{AreBlocks}
use Rattle.ul_merge.specs.Blocks.{MakesBlock, catalog_in, leaves_in, supported_in}
use Rattle.ul_merge.specs.Made.{AreMade}
use Rattle.ul_merge.specs.Over.{OrOver, items_in}
use Rattle.ul_merge.specs.Views.{leaf_of}
use Rattle.ul_merge.specs.declared.sources.Sources.{Sources}
use Rattle.ul_merge.proofs.OverFacts.{or_over}
use Rattle.ul_merge.proofs.PackageFacts.{packages_are, pair_groups}
use Rattle.ul_merge.proofs.SourceFacts.{sources_are}
use Rattle.ul_merge.proofs.merging.packages_of.Goals as goal

pub blocks_by-blocks-requires-clause-sources : goal.blocks_by-blocks-requires-clause-sources
blocks_by-blocks-requires-clause-sources g c κs within = sources_are _ c.args.project.now _ c.args.leaves.now c.requires.leaves c.requires.supported c.requires.region
    (c.as_slice-2.ensures.value ∙ c.in_ok-regions.ensures) (c.as_slice-3.ensures.value ∙ c.in_ok-choices.ensures) c.all_differ.ensures

pub blocks_by-blocks-requires-clause-groups : goal.blocks_by-blocks-requires-clause-groups
blocks_by-blocks-requires-clause-groups g c κs within = pair_groups c.eligible_rises.ensures c.args.algebra
    (record { supported = c.args.supported; regions = c.as_slice-2.result; choices = c.as_slice-3.result; catalog = c.args.catalog }) c.as_slice.result.now c.in_ok-groups.groups.items c.as_slice-4.result.now
    (sources_are c.args.algebra c.args.project.now (record { supported = c.args.supported; regions = c.as_slice-2.result; choices = c.as_slice-3.result; catalog = c.args.catalog }) c.args.leaves.now c.requires.leaves c.requires.supported c.requires.region
    (c.as_slice-2.ensures.value ∙ c.in_ok-regions.ensures) (c.as_slice-3.ensures.value ∙ c.in_ok-choices.ensures) c.all_differ.ensures)
    (c.as_slice.ensures.value ∙ sym c.as_slice-3.ensures.value) c.in_ok-groups.ensures c.as_slice-4.ensures.value

pub returns : goal.returns
returns g c =
    let s : Sources = record { supported = c.args.supported; regions = c.as_slice-2.result; choices = c.as_slice-3.result; catalog = c.args.catalog } in
    let regions = c.as_slice-2.ensures.value ∙ c.in_ok-regions.ensures in
    let choices = c.as_slice-3.ensures.value ∙ c.in_ok-choices.ensures in
    let Are = AreBlocks c.args.catalog.now c.args.project.now (map leaf_of c.args.leaves.now) in
    subst (OrOver (flat_map package_markers) Are) (sym c.packages_in.ensures)
    (or_over (flat_map package_markers) (AreMade (MakesBlock (catalog_in s) (leaves_in s) (supported_in s)) c.as_slice-4.result.now) Are
    (λ bs made. packages_are c.eligible_rises.ensures c.eligible_same.ensures c.args.algebra c.args.project.now s c.args.leaves.now c.as_slice.result.now c.in_ok-groups.groups.items c.as_slice-4.result.now bs bs c.requires.leaves
    (sources_are c.args.algebra c.args.project.now s c.args.leaves.now c.requires.leaves c.requires.supported c.requires.region regions choices c.all_differ.ensures)
    c.requires.region regions choices (c.as_slice.ensures.value ∙ sym c.as_slice-3.ensures.value) c.in_ok-groups.ensures c.as_slice-4.ensures.value made refl) (items_in c.in_ok-blocks.blocks)
    (made_holds c.blocks_by-blocks.result c.in_ok-blocks.blocks _ c.in_ok-blocks.ensures c.blocks_by-blocks.ensures))
