use Rattle.std.proofs.Common.{ap, map, ◌∙◌}
use Rattle.std.proofs.lemmas.List.{take_all}
use Rattle.ul_base.proofs.ForCallers.{made_holds}
use Rattle.ul_merge.specs.Views.{picks_of}
use Rattle.ul_merge.proofs.Walks.{mapped_more}
use Rattle.ul_merge.proofs.choices.choices_of.Goals as goal

pub loop-leaf-init : goal.loop-leaf-init
loop-leaf-init c = c.in_ok-choices.ensures.items

pub loop-leaf-preserved : goal.loop-leaf-preserved
loop-leaf-preserved c =
    let more = c.in_ok-choices-2.ensures in
    mapped_more picks_of c.args.leaves.now c.loop-leaf.leaf-index c.leaf-item.result _ _ more.0 c.loop-leaf-test.true c.leaf-item.is (made_holds c.of-one.result more.0 _ more.1 c.of-one.ensures ∙ c.as_slice.ensures.value) more.2 c.loop-leaf.invariant

pub returns : goal.returns
returns c = c.loop-leaf.invariant ∙ ap (map picks_of) (take_all c.loop-leaf.leaf-index c.args.leaves.now c.loop-leaf-test.false)
