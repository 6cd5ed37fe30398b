use Rattle.std.proofs.Common.{ap, sym, subst}
use Rattle.ul_base.proofs.ForCallers.{made_holds}
use Rattle.ul_interner.proofs.ForCallers.{knows_then}
use Rattle.ul_requirement.specs.Truth.{base}
use Rattle.ul_sound.specs.Merged.{AreEdgesOf, files_in}
use Rattle.std.specs.Prelude.{flat_map}
use Rattle.ul_lock_write.specs.Markers.{edge_marker}
use Rattle.ul_merge.specs.Over.{OrOver}
use Rattle.ul_merge.proofs.WholeParts.{block_over}
use Rattle.ul_merge.specs.Blocks.{catalog_in, leaves_in, supported_in}
use Rattle.ul_merge.specs.Keys.{pair_of}
use Rattle.ul_merge.proofs.BlockFacts.{required_are, sources_still}
use Rattle.ul_merge.proofs.blocks.block_of.Goals as goal

pub base_edges-requires-clause-required : goal.base_edges-requires-clause-required
base_edges-requires-clause-required g c = required_are _ _ _ _ _ c.requirements_of-required.ensures c.release_at-release.ensures

pub extras_of-extras-requires-clause-sources : goal.extras_of-extras-requires-clause-sources
extras_of-extras-requires-clause-sources g c = sources_still _ _ _ c.in_ok-edges.ensures.knows c.requires.sources

pub extras_of-extras-requires-clause-required : goal.extras_of-extras-requires-clause-required
extras_of-extras-requires-clause-required g c = required_are _ _ _ _ _ c.requirements_of-required.ensures c.release_at-release.ensures

pub returns-in_err-out-clause-knows : goal.returns-in_err-out-clause-knows
returns-in_err-out-clause-knows g c = knows_then _ _ _ c.in_ok-edges.ensures.knows c.extras_of-extras.ensures.knows

pub returns-in_err-block-clause-knows : goal.returns-in_err-block-clause-knows
returns-in_err-block-clause-knows g c = knows_then _ _ _ c.in_ok-edges.ensures.knows c.extras_of-extras.ensures.knows

pub returns-clause-knows : goal.returns-clause-knows
returns-clause-knows g c = knows_then _ _ _ c.in_ok-edges.ensures.knows c.extras_of-extras.ensures.knows

pub returns-clause-block : goal.returns-clause-block
returns-clause-block g c =
    let catalog = catalog_in c.args.sources.now in
    let leaves = leaves_in c.args.sources.now in
    let supported = supported_in c.args.sources.now in
    let i = pair_of c.args.group.now.key in
    let edges = subst (OrOver (flat_map edge_marker) (AreEdgesOf catalog leaves supported (base i.0, i.1))) (sym c.in_ok-out.ensures.0) c.in_ok-edges.ensures.edges in
    let extras = made_holds c.extras_of-extras.result c.in_ok-out.extras _ c.in_ok-out.ensures.1 c.extras_of-extras.ensures.extras in
    block_over catalog leaves supported i _ c.in_ok-out.out c.in_ok-out.extras c.both.result c.in_ok-block.block (ap files_in c.release_at-release.ensures) edges extras c.both.ensures c.in_ok-block.ensures
