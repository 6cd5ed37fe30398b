use Rattle.ul_report_judge.proofs.Judged.{fault_is_one, fault_refuses}
use Rattle.ul_report_judge.proofs.laws.faults.Goals as goal

pub returns-clause-one : goal.returns-clause-one
returns-clause-one c = fault_is_one

pub returns-clause-refused : goal.returns-clause-refused
returns-clause-refused c = fault_refuses
