use Rattle.std.proofs.Common.{Ok, Err}
use Rattle.ul_files.proofs.ForCallers.{read_tells}
use Rattle.ul_inputs.proofs.FileReads.{found_is, read_cause, read_refused}
use Rattle.ul_inputs.proofs.files.file_at.Goals as goal

pub returns-in-Ok-clause-told : goal.returns-in-Ok-clause-told
returns-in-Ok-clause-told g c m a =
    found_is c.args.name.now c.args.most c.args.path.now m c.in-Ok.found
    (read_tells m _ _ c.args.path.now c.args.most (Ok c.in-Ok.found) c.in-Ok.ensures.recorded c.in-Ok.ensures.within a)

pub returns-in-Err-clause-told : goal.returns-in-Err-clause-told
returns-in-Err-clause-told g c m a =
    read_refused c.args.name.now c.args.most c.args.path.now m c.in-Err.refused c.from_str-path.result c.refusal.result
    (read_tells m _ _ c.args.path.now c.args.most (Err c.in-Err.refused) c.in-Err.ensures.recorded c.in-Err.ensures.within a)
    c.from_str-path.ensures.ok c.refusal.ensures

pub returns-in-Err-clause-cause : goal.returns-in-Err-clause-cause
returns-in-Err-clause-cause g c =
    read_cause c.args.name.now c.args.most c.args.path.now _ _ _ _ c.in-Err.refused c.from_str-path.result c.refusal.result
    c.in-Err.ensures.cause c.from_str-path.ensures.ok c.refusal.ensures
