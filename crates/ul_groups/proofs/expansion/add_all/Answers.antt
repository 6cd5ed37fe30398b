use Rattle.std.proofs.Common.{◌∙◌, ◌-◌}
use Rattle.ul_groups.specs.Expanded.{deepest}
use Rattle.ul_groups.specs.GroupMaps.{groups_in, list_fields}
use Rattle.ul_groups.proofs.Opened.{all_end}
use Rattle.ul_groups.proofs.expansion.add_all.Goals as goal

pub returns : goal.returns
returns c =
    c.loop-innermost.invariant
    ∙ all_end (groups_in c.args.groups.now.entries) (deepest - 1) c.loop-innermost.opens.items c.pop.new.self.items c.loop-innermost.opens.len
    (list_fields c.loop-innermost.list.items c.loop-innermost.begun.keys c.loop-innermost.done.keys) c.in_default.ensures.cases.0 c.in_default.ensures.items
    c.in_default.ensures.rest
