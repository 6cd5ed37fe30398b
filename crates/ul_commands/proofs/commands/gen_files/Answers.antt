use Rattle.std.proofs.Common.{◌∙◌, None, Some, ap}
use Rattle.ul_files.specs.MemFiles.{SureState}
use Rattle.ul_files.specs.ReadsHere.{here_agrees}
use Rattle.ul_commands.specs.Generating.{generated_files, index_folder, project_path}
use Rattle.ul_commands.specs.Locking.{lock_of}
use Rattle.ul_commands.proofs.Counting.{counted_answer, counted_answers, counted_refusal, refusal_sure}
use Rattle.ul_commands.proofs.commands.gen_files.Goals as goal

pub returns-in-Ok-clause-told : goal.returns-in-Ok-clause-told
returns-in-Ok-clause-told g c m =
    counted_answer (lock_of project_path index_folder None (generated_files c.args.seed c.args.size)) c.in-Ok.answer c.counted.result
    (c.in-Ok.ensures.told (generated_files c.args.seed c.args.size) (here_agrees _ _ _ (c.in-Ok.ensures.same ∙ ap Some (ap (λ (s : SureState). s.files) c.of-files.ensures ∙ c.in_ok-list.ensures)))) c.counted.ensures

pub returns-in-Ok-clause-answering : goal.returns-in-Ok-clause-answering
returns-in-Ok-clause-answering g c = counted_answers c.in-Ok.answer c.counted.result c.in-Ok.ensures.answering c.counted.ensures

pub returns-in-Err-clause-told : goal.returns-in-Err-clause-told
returns-in-Err-clause-told g c m =
    counted_refusal (lock_of project_path index_folder None (generated_files c.args.seed c.args.size)) c.in-Err.refusal
    (c.in-Err.ensures.told (generated_files c.args.seed c.args.size) (here_agrees _ _ _ (c.in-Err.ensures.same ∙ ap Some (ap (λ (s : SureState). s.files) c.of-files.ensures ∙ c.in_ok-list.ensures))))
    (refusal_sure None c.in-Err.refusal c.in-Err.ensures.cause)

pub returns-in-Err-clause-sure : goal.returns-in-Err-clause-sure
returns-in-Err-clause-sure g c = refusal_sure None c.in-Err.refusal c.in-Err.ensures.cause
