use Rattle.std.proofs.Common.{subst}
use Rattle.ul_inputs.specs.Resolutions.{view}
use Rattle.ul_commands.specs.Forking.{AreForksOf}
use Rattle.ul_commands.proofs.resolving.answer_known.Goals as goal

pub answer_of_leaves-requires-clause-forks : goal.answer_of_leaves-requires-clause-forks
answer_of_leaves-requires-clause-forks g c κs within =
    subst (λ f. AreForksOf (view c.args.resolution.now) c.args.algebra f) c.in-Leaves.is c.requires.forks

pub answer_of_refused-answer-requires-clause-forks : goal.answer_of_refused-answer-requires-clause-forks
answer_of_refused-answer-requires-clause-forks g c =
    subst (λ f. AreForksOf (view c.args.resolution.now) c.args.algebra f) c.in-Refused.is c.requires.forks
