use Rattle.std.proofs.Common.{◌++◌, ◌∙◌, ap}
use Rattle.ul_requirement.specs.Fields.{RequirementFields}
use Rattle.ul_groups.specs.Adjusted.{replaced_by}
use Rattle.ul_groups.specs.NameLists.{at_name}
use Rattle.ul_groups.proofs.AdjustedLists.{overridden_next}
use Rattle.ul_groups.proofs.adjustment.overridden_list.Goals as goal

pub loop-requirement-preserved : goal.loop-requirement-preserved
loop-requirement-preserved c =
    let on = at_name c.args.overrides.now.entries in
    overridden_next on c.args.requirements.now c.loop-requirement.requirement-index
    c.requirement-item.result c.loop-requirement.list.items c.add_replaced.new.list.items c.loop-requirement.invariant
    c.loop-requirement-test.true c.requirement-item.is
    (c.in_ok-add_replaced.ensures
    ∙ ap (λ os. c.loop-requirement.list.items ++ replaced_by c.requirement-item.result os)
    (c.on_name.ensures ∙ ap (λ (q : RequirementFields). on q.name) c.requirement.view_is))
