use Rattle.ul_inputs.proofs.LockFaults.{lock_fault}
use Rattle.ul_inputs.proofs.locks.lock_in.Goals as goal

pub returns-in-Err : goal.returns-in-Err
returns-in-Err c = lock_fault c.args.path.now c.args.bytes.now c.in-Err.fault c.refusal.result c.in-Err.ensures c.refusal.ensures
