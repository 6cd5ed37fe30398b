use Rattle.ul_report_read.proofs.Answered.{reads_proof}
use Rattle.ul_report_read.proofs.reading.read.Goals as goal

pub returns : goal.returns
returns c = reads_proof c.sample_holds.ensures c.args.bytes.now c.lines_read-answer.result c.lines_read-answer.ensures
