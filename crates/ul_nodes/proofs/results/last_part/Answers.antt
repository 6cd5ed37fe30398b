use Rattle.std.proofs.Common.{sym}
use Rattle.ul_nodes.proofs.Viewed.{last_at}
use Rattle.ul_nodes.proofs.results.last_part.Goals as goal

pub returns-in-Some : goal.returns-in-Some
returns-in-Some g c = sym (last_at c.args.parts.now c.in-Some.entry.now c.args.otherwise.now (sym c.in-Some.ensures.value))
