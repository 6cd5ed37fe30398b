use Rattle.ul_inputs.proofs.LoadFaults.{load_fault, load_found}
use Rattle.ul_inputs.proofs.catalogs.documents.Goals as goal

pub returns-in-Ok-clause-told : goal.returns-in-Ok-clause-told
returns-in-Ok-clause-told g c m a =
    load_found m c.args.folder.now c.args.project.now c.in-Ok.catalog (c.in-Ok.ensures.answer m a)

pub returns-in-Err-clause-told : goal.returns-in-Err-clause-told
returns-in-Err-clause-told g c m a =
    load_fault m c.args.folder.now c.args.project.now c.in-Err.fault c.refusal.result (c.in-Err.ensures.answer m a) c.refusal.ensures
