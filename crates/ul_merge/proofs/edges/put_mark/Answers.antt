use Rattle.ul_merge.proofs.EdgeFacts.{none_past, none_place, put_none}
use Rattle.ul_merge.proofs.edges.put_mark.Goals as goal

pub returns-in_default : goal.returns-in_default
returns-in_default c = put_none c.args.marks.now.items c.args.all.now c.args.place (none_past c.args.all.now c.args.place (none_place _ _ c.get.result c.in_default.not-Some c.get.ensures.lookup.3))
