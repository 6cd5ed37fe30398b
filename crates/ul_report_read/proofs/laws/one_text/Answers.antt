use Rattle.ul_report_read.proofs.WholeTexts.{one_text}
use Rattle.ul_report_read.proofs.laws.one_text.Goals as goal

pub returns : goal.returns
returns c = one_text c.sample_holds.ensures
