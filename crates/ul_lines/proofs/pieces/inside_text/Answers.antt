use Rattle.std.proofs.Common.{ap, ◌∙◌}
use Rattle.std.specs.Prelude.{option_and_then}
use Rattle.ul_lines.specs.Pieces.{cut_end}
use Rattle.ul_lines.proofs.pieces.inside_text.Goals as goal

pub returns-in-None : goal.returns-in-None
returns-in-None c = ap (option_and_then (cut_end c.args.end.now)) c.in-None.ensures

pub returns-in-Some : goal.returns-in-Some
returns-in-Some c = c.before_end.ensures ∙ ap (option_and_then (cut_end c.args.end.now)) c.in-Some.ensures
