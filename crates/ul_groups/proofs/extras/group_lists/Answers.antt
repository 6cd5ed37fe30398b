use Rattle.std.proofs.Common.{◌∙◌, arith}
use Rattle.std.proofs.lemmas.Result.{err_from_is_err_and}
use Rattle.std.specs.declared.alloc.Global.{Global}
use Rattle.ul_project.specs.Answers.{list_view}
use Rattle.ul_groups.specs.GroupMaps.{groups_in}
use Rattle.ul_groups.proofs.GroupLists.{lists_end, lists_next, lists_start, lists_stop, stops}
use Rattle.ul_groups.proofs.extras.group_lists.Goals as goal

pub loop-group-init : goal.loop-group-init
loop-group-init c = lists_start (groups_in c.args.map.now.entries) c.new-lists.result.items c.args.groups.now c.new-lists.ensures.items

pub returns-in_err-extra_list : goal.returns-in_err-extra_list
returns-in_err-extra_list c =
    let p = err_from_is_err_and c.from_residual.result c.from_residual.ensures.1 in
    rw (p.1, p.2)
    (stops (λ q. q) (list_view {Z = Global}) c.in_err-extra_list.field-0.0 _ _
    (λ stop e. c.loop-group.invariant
    ∙ lists_stop (groups_in c.args.map.now.entries) c.loop-group.lists.items c.args.groups.now c.loop-group.group-index c.group-item.result stop
    c.loop-group-test.true c.group-item.is e)
    c.in_err-extra_list.ensures)

pub loop-group-preserved : goal.loop-group-preserved
loop-group-preserved c =
    c.loop-group.invariant
    ∙ lists_next (groups_in c.args.map.now.entries) c.loop-group.lists.items c.push.new.self.items c.args.groups.now c.loop-group.group-index
    c.group-item.result c.in_ok-extra_list.field-0 c.loop-group-test.true c.group-item.is c.in_ok-extra_list.ensures c.in_ok-push.ensures.items

pub returns : goal.returns
returns c =
    c.loop-group.invariant
    ∙ lists_end (groups_in c.args.map.now.entries) c.loop-group.lists.items c.args.groups.now c.loop-group.group-index (omega arith)
