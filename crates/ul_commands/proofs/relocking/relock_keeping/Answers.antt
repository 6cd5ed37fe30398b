use Rattle.std.proofs.Common.{ℕ, List, Ok, subst}
use Rattle.ul_answers.specs.Views.{view as answer_view}
use Rattle.ul_inputs.specs.Inputs.{answer}
use Rattle.ul_inputs.specs.Locks.{kept_of}
use Rattle.ul_inputs.specs.Refusals.{Answers}
use Rattle.ul_inputs.specs.Resolutions.{resolution_with, view}
use Rattle.ul_inputs.proofs.ForCallers.{goes_on, refuses}
use Rattle.ul_commands.specs.Relocking.{IsRelockAnswer}
use Rattle.ul_commands.proofs.Answering.{relock_answers}
use Rattle.ul_commands.proofs.relocking.relock_keeping.Goals as goal

pub returns-in-Ok-clause-told : goal.returns-in-Ok-clause-told
returns-in-Ok-clause-told g c m a =
    let told = c.in-Ok.ensures.told m a in
    goes_on answer_view c.relock.result (view c.in-Ok.resolution)
    (resolution_with c.args.folder.now c.args.project (kept_of c.args.lock) m) (λ x. answer (IsRelockAnswer x c.args.lock) m)
    (rw c.requires.kept at told) c.relock.ensures

pub returns-in-Ok-clause-answering : goal.returns-in-Ok-clause-answering
returns-in-Ok-clause-answering g c = relock_answers _ _ c.relock.result c.relock.ensures

pub returns-in-Err-clause-told : goal.returns-in-Err-clause-told
returns-in-Err-clause-told g c m a =
    let told = c.in-Err.ensures.told m a in
    refuses view answer_view c.in-Err.refusal
    (resolution_with c.args.folder.now c.args.project (kept_of c.args.lock) m) (λ x. answer (IsRelockAnswer x c.args.lock) m)
    (rw c.requires.kept at told)
