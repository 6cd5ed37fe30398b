use Rattle.ul_groups.proofs.NameLists.{has_next}
use Rattle.ul_groups.proofs.name_lists.by_name.Goals as goal

pub loop-requirement-preserved : goal.loop-requirement-preserved
loop-requirement-preserved c =
    has_next c.loop-requirement.lists.entries c.add.new.lists.entries c.args.requirements.now c.loop-requirement.requirement-index
    c.requirement-item.result c.loop-requirement.invariant c.loop-requirement-test.true c.requirement-item.is c.in_ok-add.ensures
