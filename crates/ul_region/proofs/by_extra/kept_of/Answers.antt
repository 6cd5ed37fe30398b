use Rattle.std.proofs.Common.{ap, ◌∙◌}
use Rattle.std.proofs.lemmas.List.{take_all}
use Rattle.ul_region.specs.Rows.{asked_at}
use Rattle.ul_region.proofs.KeptPlaces.{kept_more}
use Rattle.ul_region.proofs.by_extra.kept_of.Goals as goal

pub loop-requirement-preserved : goal.loop-requirement-preserved
loop-requirement-preserved c = kept_more c.args.node.now c.args.requirements.now c.loop-requirement.requirement-index c.requirement-item.result _ _ c.loop-requirement-test.true c.requirement-item.is
    c.in_ok-put_kept.ensures c.loop-requirement.invariant

pub returns : goal.returns
returns c = c.loop-requirement.invariant ∙ ap (asked_at c.args.node.now) (take_all c.loop-requirement.requirement-index c.args.requirements.now c.loop-requirement-test.false)
