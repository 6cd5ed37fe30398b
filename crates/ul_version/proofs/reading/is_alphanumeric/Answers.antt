use Rattle.std.proofs.Common.{sym, ◌∙◌}
use Rattle.ul_version.proofs.Cuts.{alphanumeric-lowered}
use Rattle.ul_version.proofs.reading.is_alphanumeric.Goals as goal

pub returns : goal.returns
returns c = c.is_run.ensures ∙ sym (alphanumeric-lowered c.args.piece.now)
