use Rattle.ul_report_judge.proofs.Named.{accepted_again, judged_again}
use Rattle.ul_report_judge.proofs.laws.printed_is_accepted.Goals as goal

pub returns : goal.returns
returns c = record { names = accepted_again; judged = judged_again }
