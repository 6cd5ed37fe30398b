use Rattle.std.proofs.Common.{ap, ◌∙◌}
use Rattle.std.specs.Prelude.{option_and_then}
use Rattle.ul_lines.specs.Pieces.{until}
use Rattle.ul_lines.proofs.pieces.enclosed_text.Goals as goal

pub returns-in-None : goal.returns-in-None
returns-in-None c = ap (option_and_then (until c.args.stop)) c.in-None.ensures

pub returns-in-Some : goal.returns-in-Some
returns-in-Some c = c.divided.ensures ∙ ap (option_and_then (until c.args.stop)) c.in-Some.ensures
