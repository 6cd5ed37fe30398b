use Rattle.ul_report_read.proofs.Answered.{faults}
use Rattle.ul_report_read.proofs.laws.one_fault.Goals as goal

pub returns : goal.returns
returns c = faults
