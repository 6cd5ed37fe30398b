use Rattle.ul_report.proofs.Nameable.{right_named}
use Rattle.ul_report.proofs.laws.right_steps_have_names.Goals as goal

pub returns : goal.returns
returns c = right_named
