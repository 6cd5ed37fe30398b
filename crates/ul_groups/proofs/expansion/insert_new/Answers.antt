use Rattle.std.proofs.Common.{ap}
use Rattle.ul_project.specs.Groups.{GroupFields}
use Rattle.ul_groups.proofs.GroupMaps.{kept_at, new_at}
use Rattle.ul_groups.proofs.expansion.insert_new.Goals as goal

pub returns-then-contains_key : goal.returns-then-contains_key
returns-then-contains_key c =
    kept_at c.args.map.now.entries c.args.group.now c.group.inside.name c.contains_key.result (ap (λ (g : GroupFields). g.name) c.group.view_is)
    c.contains_key.ensures c.if-contains_key.true

pub returns : goal.returns
returns c =
    new_at c.args.map.now.entries c.insert.new.map.entries c.args.group.now c.group.inside.name c.contains_key.result
    (ap (λ (g : GroupFields). g.name) c.group.view_is) c.contains_key.ensures c.if-contains_key.false c.in_ok-insert.ensures
