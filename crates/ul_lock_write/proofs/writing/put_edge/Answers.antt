use Rattle.std.proofs.Common.{rules, sym}
use Rattle.ul_lock_write.proofs.Written.{edge_written}
use Rattle.ul_lock_write.proofs.writing.put_edge.Goals as goal

pub returns : goal.returns
returns c = rw (sym (edge_written c.args.out.now.items c.args.edge.now)) (search rules)
