use Rattle.std.proofs.lemmas.Result.{err_from_is_err_and}
use Rattle.ul_project.proofs.ProjectRegions.{is_answer, is_fault}
use Rattle.ul_project.proofs.reading.project.Goals as goal

pub returns-in_err-file : goal.returns-in_err-file
returns-in_err-file c =
    let p = err_from_is_err_and c.from_residual.result c.from_residual.ensures.1 in
    rw (p.1, p.2) (is_fault (λ f. f) c.args.bytes.now c.in_err-file.field-0.0 c.in_err-file.ensures)

pub returns : goal.returns
returns c = is_answer c.args.bytes.now c.in_ok-file.file c.project_of.result c.in_ok-file.ensures c.project_of.ensures
