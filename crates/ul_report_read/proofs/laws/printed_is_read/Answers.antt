use Rattle.ul_report_read.proofs.Answered.{printed_read}
use Rattle.ul_report_read.proofs.Printed.{printed_proof}
use Rattle.ul_report_read.proofs.laws.printed_is_read.Goals as goal

pub returns : goal.returns
returns c = record { is_proof = printed_proof; read = printed_read }
