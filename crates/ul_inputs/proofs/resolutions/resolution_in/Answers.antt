use Rattle.std.proofs.Common.{Err, Vec, Global, option_map}
use Rattle.std.proofs.lemmas.Result.{err_from_is_err_and}
use Rattle.ul_inputs.specs.Inputs.{said_on}
use Rattle.ul_inputs.specs.Locks.{Kept, old_lock}
use Rattle.ul_inputs.specs.Projects.{project_at}
use Rattle.ul_inputs.specs.Resolutions.{resolution_with, view}
use Rattle.ul_inputs.proofs.ForCallers.{goes_on, refuses}
use Rattle.ul_inputs.proofs.resolutions.resolution_in.Goals as goal

pub returns-in_err-project-clause-told : goal.returns-in_err-project-clause-told
returns-in_err-project-clause-told g c m a =
    let old = option_map (λ p. p.now) c.args.old in
    let p = err_from_is_err_and c.from_residual.result c.from_residual.ensures.1 in
    rw (p.1, p.2)
    (refuses (λ x. x) view c.in_err-project.field-0.0 (project_at c.args.project.now m) (λ x. said_on (old_lock old m) (λ k. resolution_with c.args.folder.now x k m))
    (c.in_err-project.ensures.told m a))

pub returns-in-Err-clause-told : goal.returns-in-Err-clause-told
returns-in-Err-clause-told g c m a =
    let old = option_map (λ p. p.now) c.args.old in
    goes_on view (Err c.in-Err.refusal) c.in_ok-project.project (project_at c.args.project.now m) (λ x. said_on (old_lock old m) (λ k. resolution_with c.args.folder.now x k m))
    (c.in_ok-project.ensures.told m (c.in-Err.ensures.grown m a))
    (refuses {T = Vec Kept Global} (λ (k : Vec Kept Global). k.items) view c.in-Err.refusal (old_lock old m) (λ k. resolution_with c.args.folder.now c.in_ok-project.project k m)
    (c.in-Err.ensures.told m a))

pub returns-in-Ok-clause-told : goal.returns-in-Ok-clause-told
returns-in-Ok-clause-told g c m a =
    let old = option_map (λ p. p.now) c.args.old in
    let read = c.resolution_with.ensures.grown m a in
    goes_on view c.resolution_with.result c.in_ok-project.project (project_at c.args.project.now m) (λ x. said_on (old_lock old m) (λ k. resolution_with c.args.folder.now x k m))
    (c.in_ok-project.ensures.told m (c.in-Ok.ensures.grown m read))
    (goes_on view c.resolution_with.result c.in-Ok.kept.items (old_lock old m) (λ k. resolution_with c.args.folder.now c.in_ok-project.project k m)
    (c.in-Ok.ensures.told m read) (c.resolution_with.ensures.told m a))

pub returns-in-Err-clause-grown : goal.returns-in-Err-clause-grown
returns-in-Err-clause-grown g c m a = c.in_ok-project.ensures.grown m (c.in-Err.ensures.grown m a)

pub returns-in-Ok-clause-grown : goal.returns-in-Ok-clause-grown
returns-in-Ok-clause-grown g c m a =
    c.in_ok-project.ensures.grown m (c.in-Ok.ensures.grown m (c.resolution_with.ensures.grown m a))
