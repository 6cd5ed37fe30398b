use Rattle.std.proofs.lemmas.Result.{err_from_is_err_and}
use Rattle.ul_answers.specs.Views.{view}
use Rattle.ul_inputs.specs.Projects.{project_at}
use Rattle.ul_commands.specs.Verifying.{verify_on}
use Rattle.ul_inputs.proofs.ForCallers.{goes_on, refuses}
use Rattle.ul_commands.proofs.commands.verify_files.Goals as goal

pub returns-in_err-project-clause-told : goal.returns-in_err-project-clause-told
returns-in_err-project-clause-told g c m a =
    let p = err_from_is_err_and c.from_residual.result c.from_residual.ensures.1 in
    rw (p.1, p.2) (refuses (λ x. x) view c.in_err-project.field-0.0 (project_at c.args.project.now m) (λ x. verify_on c.args.folder.now c.args.lock.now x m)
    (c.in_err-project.ensures.told m a))

pub returns-clause-told : goal.returns-clause-told
returns-clause-told g c m a =
    goes_on view c.verify_on.result c.in_ok-project.project (project_at c.args.project.now m) (λ x. verify_on c.args.folder.now c.args.lock.now x m)
    (c.in_ok-project.ensures.told m (c.verify_on.ensures.grown m a)) (c.verify_on.ensures.told m a)

pub returns-clause-grown : goal.returns-clause-grown
returns-clause-grown g c m a = c.in_ok-project.ensures.grown m (c.verify_on.ensures.grown m a)
