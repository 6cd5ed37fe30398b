use Rattle.std.proofs.Common.{Ok}
use Rattle.ul_answers.specs.Views.{view as answer_view}
use Rattle.ul_inputs.specs.Resolutions.{view}
use Rattle.ul_commands.proofs.Relocked.{anew_answers}
use Rattle.ul_commands.proofs.relocking.again_or_anew.Goals as goal

pub returns-else-printed : goal.returns-else-printed
returns-else-printed g c l other =
    anew_answers (view c.args.resolution) l other (Ok (answer_view c.args.again)) c.requires.again
    (λ e. let yes = (c.in-Ok.ensures (view c.args.resolution) c.requires.again).1 e in let no = c.if-printed.false in cc)
    c.locked_anew.result c.locked_anew.ensures
