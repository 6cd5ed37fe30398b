use Rattle.std.proofs.Common.{arith}
use Rattle.std.proofs.lemmas.Grind.{common_steps}
use Rattle.ul_lock_write.proofs.Written.{table_done}
use Rattle.ul_lock_write.proofs.writing.put_table.Goals as goal

pub returns : goal.returns
returns c = table_done c.args.out.now.items c.loop-extra.out.items c.args.extras.now c.loop-extra.extra-index (omega arith) (grind (arith, common_steps)) c.loop-extra.invariant
