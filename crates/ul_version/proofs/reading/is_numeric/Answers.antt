use Rattle.std.proofs.Common.{sym, ◌∙◌}
use Rattle.ul_version.proofs.Cuts.{numeric-lowered}
use Rattle.ul_version.proofs.reading.is_numeric.Goals as goal

pub returns : goal.returns
returns c = c.is_run.ensures ∙ sym (numeric-lowered c.args.piece.now)
