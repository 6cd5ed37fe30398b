use Rattle.std.proofs.Common.{rules, sym, arith}
use Rattle.std.proofs.lemmas.Grind.{common_steps}
use Rattle.ul_lock_write.proofs.Written.{forks_done}
use Rattle.ul_lock_write.proofs.writing.put_forks.Goals as goal

pub returns : goal.returns
returns c = rw (sym (forks_done c.args.out.now.items c.loop-fork.out.items c.args.forks.now c.loop-fork.fork-index (omega arith) (grind (arith, common_steps)) c.loop-fork.invariant)) (search rules)
