use Rattle.std.proofs.Common.{subst, sym}
use Rattle.ul_interner.proofs.ForCallers.{knows_itself, knows_then}
use Rattle.ul_lock_write.specs.Markers.{package_markers}
use Rattle.ul_merge.specs.Blocks.{IsPairGroup, MakesBlock, catalog_in, leaves_in, supported_in}
use Rattle.ul_base.proofs.ForCallers.{made_holds}
use Rattle.ul_merge.proofs.BlockFacts.{sources_still}
use Rattle.ul_merge.proofs.OverFacts.{all_over, made_over, none_over, one_over}
use Rattle.ul_merge.proofs.blocks.made_blocks.Goals as goal

pub block_of-block-requires-clause-sources : goal.block_of-block-requires-clause-sources
block_of-block-requires-clause-sources g c = sources_still _ _ _ c.loop-group.invariant.knows c.requires.sources

pub returns-in_err-blocks-clause-knows : goal.returns-in_err-blocks-clause-knows
returns-in_err-blocks-clause-knows g c = knows_then _ _ _ c.loop-group.invariant.knows c.block_of-block.ensures.knows

pub loop-group-preserved : goal.loop-group-preserved
loop-group-preserved g c =
    let Makes = MakesBlock (catalog_in c.args.sources.now) (leaves_in c.args.sources.now) (supported_in c.args.sources.now) in
    let more = c.in_ok-blocks.ensures in
    record {
      knows = knows_then _ _ _ c.loop-group.invariant.knows c.block_of-block.ensures.knows;
      made = made_over Makes package_markers _ _ _ _ _ _ c.loop-group-test.true c.group-item.is c.loop-group.invariant.made
          (one_over package_markers _ (Makes c.group-item.result) (λ b h. h) more.0 (made_holds c.block_of-block.result more.0 _ more.1 c.block_of-block.ensures.block)) more.2;
    }

pub loop-group-init : goal.loop-group-init
loop-group-init g c = record {
  knows = knows_itself _;
  made = none_over (MakesBlock (catalog_in c.args.sources.now) (leaves_in c.args.sources.now) (supported_in c.args.sources.now)) package_markers _ c.in_ok-with_capacity.ensures.items;
}

pub block_of-block-requires-clause-group : goal.block_of-block-requires-clause-group
block_of-block-requires-clause-group g c = subst (IsPairGroup c.args.sources.now.choices.now) (sym c.group-item.is) (c.requires.groups c.loop-group.group-index c.group-item.result c.loop-group-test.true)

pub returns-clause-knows : goal.returns-clause-knows
returns-clause-knows g c = c.loop-group.invariant.knows

pub returns-clause-blocks : goal.returns-clause-blocks
returns-clause-blocks g c = all_over (MakesBlock (catalog_in c.args.sources.now) (leaves_in c.args.sources.now) (supported_in c.args.sources.now)) package_markers c.args.groups.now c.loop-group.group-index _
    c.loop-group-test.false c.loop-group.invariant.made
