use Rattle.std.proofs.Common.{ap, ◌∙◌}
use Rattle.std.specs.Prelude.{option_map}
use Rattle.ul_lines.specs.Pieces.{part_found, some_part}
use Rattle.ul_lines.proofs.pieces.optional_text.Goals as goal

pub returns-in-None : goal.returns-in-None
returns-in-None c = ap (part_found c.args.stop c.args.text.now) c.in-None.ensures

pub returns-in-None-divided : goal.returns-in-None-divided
returns-in-None-divided c = ap (option_map some_part) c.in-None-divided.ensures ∙ ap (part_found c.args.stop c.args.text.now) c.in-Some.ensures

pub returns-in-Some-divided : goal.returns-in-Some-divided
returns-in-Some-divided c = ap (option_map some_part) c.in-Some-divided.ensures ∙ ap (part_found c.args.stop c.args.text.now) c.in-Some.ensures
