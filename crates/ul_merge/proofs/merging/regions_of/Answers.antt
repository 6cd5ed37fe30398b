use Rattle.std.proofs.Common.{ap, map, ◌∙◌}
use Rattle.std.proofs.lemmas.List.{take_all}
use Rattle.ul_base.proofs.ForCallers.{made_holds}
use Rattle.ul_merge.specs.Views.{ForkLeaf}
use Rattle.ul_merge.proofs.Walks.{mapped_more}
use Rattle.ul_merge.proofs.merging.regions_of.Goals as goal

pub loop-leaf-init : goal.loop-leaf-init
loop-leaf-init c = c.in_ok-regions.ensures.items

pub loop-leaf-preserved : goal.loop-leaf-preserved
loop-leaf-preserved c =
    let more = c.in_ok-regions-2.ensures in
    mapped_more (λ (l : ForkLeaf). l.region) c.args.leaves.now c.loop-leaf.leaf-index c.leaf-item.result _ _ more.0 c.loop-leaf-test.true c.leaf-item.is (made_holds c.share-region.result more.0 _ more.1 c.share-region.ensures) more.2 c.loop-leaf.invariant

pub returns : goal.returns
returns c = c.loop-leaf.invariant ∙ ap (map (λ (l : ForkLeaf). l.region)) (take_all c.loop-leaf.leaf-index c.args.leaves.now c.loop-leaf-test.false)
