use Rattle.ul_commands.proofs.Relocked.{written_decides}
use Rattle.ul_commands.proofs.keeping.is_writable.Goals as goal

pub returns : goal.returns
returns c = written_decides c.args.lock.now c.write.result c.was_written.result c.write.ensures c.was_written.ensures
