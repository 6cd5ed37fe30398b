use Rattle.ul_lock_read.proofs.Answered.{faults_once}
use Rattle.ul_lock_read.proofs.laws.one_fault.Goals as goal

pub returns : goal.returns
returns c = faults_once
