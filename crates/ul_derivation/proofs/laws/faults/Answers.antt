use Rattle.ul_derivation.proofs.Rights.{fault_one, fault_refuses}
use Rattle.ul_derivation.proofs.laws.faults.Goals as goal

pub returns : goal.returns
returns c = record { one = fault_one; refused = fault_refuses }
