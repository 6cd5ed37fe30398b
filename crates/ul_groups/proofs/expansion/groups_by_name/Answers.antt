use Rattle.ul_groups.proofs.GroupMaps.{has_next}
use Rattle.ul_groups.proofs.expansion.groups_by_name.Goals as goal

pub loop-group-preserved : goal.loop-group-preserved
loop-group-preserved c =
    has_next c.loop-group.map.entries c.insert_new.new.map.entries c.args.groups.now c.loop-group.group-index c.group-item.result
    c.loop-group.invariant c.loop-group-test.true c.group-item.is c.in_ok-insert_new.ensures
