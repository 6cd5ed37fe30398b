use Rattle.ul_nodes.proofs.Closed.{last_alone}
use Rattle.ul_nodes.proofs.closing.only_part.Goals as goal

pub returns : goal.returns
returns g c = last_alone c.args.made.items c.pop.new.self.items (c.in-Some.field-0-0, c.in-Some.part) c.requires c.in-Some.ensures.items
