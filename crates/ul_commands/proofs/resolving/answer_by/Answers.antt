use Rattle.ul_inputs.specs.Resolutions.{view}
use Rattle.ul_commands.proofs.Replies.{refused_forks}
use Rattle.ul_commands.proofs.resolving.answer_by.Goals as goal

pub returns-in-Err : goal.returns-in-Err
returns-in-Err g c = refused_forks c.args.wanted (view c.args.resolution.now) c.in-Err.refusal c.in-Err.ensures.refused
