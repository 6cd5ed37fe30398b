use Rattle.std.proofs.Common.{◌∙◌}
use Rattle.ul_project.specs.GroupLists.{group_of}
use Rattle.ul_project.proofs.GroupNames.{groups_rise}
use Rattle.ul_project.proofs.Mapped.{mapped_end, mapped_next}
use Rattle.ul_project.proofs.groups.groups_of.Goals as goal

pub loop-name-preserved : goal.loop-name-preserved
loop-name-preserved c =
    mapped_next group_of c.loop-name.groups.items c.in_ok-groups.groups.items c.loop-name.name-iterator c.next.new.self (c.in-Some.name, c.in-Some.entries)
    c.in-Some.ensures.steps (rw c.entries.view_is at c.in_ok-groups.ensures)
    ∙ c.loop-name.invariant

pub returns-clause-groups : goal.returns-clause-groups
returns-clause-groups c = mapped_end group_of c.loop-name.groups.items _ c.loop-name.name-iterator c.in-None.ensures.steps.0 c.loop-name.invariant

pub returns-clause-rises : goal.returns-clause-rises
returns-clause-rises c =
    groups_rise c.args.lists.entries c.loop-name.groups.items
    (mapped_end group_of c.loop-name.groups.items _ c.loop-name.name-iterator c.in-None.ensures.steps.0 c.loop-name.invariant) c.len-size.ensures.ordered
