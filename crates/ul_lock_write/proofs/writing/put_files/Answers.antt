use Rattle.std.proofs.Common.{rules, sym, arith}
use Rattle.std.proofs.lemmas.Grind.{common_steps}
use Rattle.ul_lock_write.proofs.Written.{files_done}
use Rattle.ul_lock_write.proofs.writing.put_files.Goals as goal

pub returns : goal.returns
returns c = rw (sym (files_done c.args.out.now.items c.loop-file.out.items c.args.files.now c.loop-file.file-index (omega arith) (grind (arith, common_steps)) c.loop-file.invariant)) (search rules)
