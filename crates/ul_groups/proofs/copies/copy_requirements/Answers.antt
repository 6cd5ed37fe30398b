use Rattle.std.proofs.Common.{◌∙◌, arith}
use Rattle.std.proofs.lemmas.List.{take_all}
use Rattle.ul_groups.proofs.MadeLists.{copied_next}
use Rattle.ul_groups.proofs.copies.copy_requirements.Goals as goal

pub loop-requirement-preserved : goal.loop-requirement-preserved
loop-requirement-preserved c =
    copied_next _ _ _ _ _ c.copy.result c.in_ok-list-2.ensures c.copy.ensures c.loop-requirement-test.true c.requirement-item.is c.loop-requirement.invariant

pub returns : goal.returns
returns c = c.loop-requirement.invariant ∙ take_all c.loop-requirement.requirement-index c.args.requirements.now (omega arith)
