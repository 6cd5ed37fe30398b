use Rattle.std.proofs.Common.{◌+◌, arith, ◌∙◌, ap}
use Rattle.std.proofs.lemmas.Result.{err_from_is_err_and}
use Rattle.std.specs.declared.alloc.Global.{Global}
use Rattle.serde_json.specs.View.{view}
use Rattle.ul_index.specs.Answers.{files_view}
use Rattle.ul_index.specs.Documents.{files_from}
use Rattle.ul_index.proofs.Faults.{Gives-err}
use Rattle.ul_index.proofs.FilesRead.{behind, files-end, files-fault, files-next}
use Rattle.ul_index.proofs.Values.{values-end, values-next, values_from}
use Rattle.ul_index.proofs.files.files_of.Goals as goal

pub returns-in_err-file : goal.returns-in_err-file
returns-in_err-file c =
    let p = err_from_is_err_and c.from_residual.result c.from_residual.ensures.1 in
    let i = c.loop-item.item-index in
    let vs = c.args.items.now in
    rw (p.1, p.2)
    (Gives-err (λ f. f) (files_view {Z = Global}) c.in_err-file.field-0.0 _ _
    (λ f e. c.loop-item.invariant.1
    ∙ ap (λ ds. behind c.loop-item.files.items (files_from c.args.entry c.loop-item.number ds)) (values-next i vs c.item-item.result c.loop-item-test.true c.item-item.is)
    ∙ files-fault c.args.entry c.loop-item.number c.loop-item.files.items (view c.item-item.result) (values_from (i + 1) vs) f e)
    c.in_err-file.ensures)

pub loop-item-preserved : goal.loop-item-preserved
loop-item-preserved c =
    let i = c.loop-item.item-index in
    let vs = c.args.items.now in (
      omega arith,
      c.loop-item.invariant.1
          ∙ ap (λ ds. behind c.loop-item.files.items (files_from c.args.entry c.loop-item.number ds)) (values-next i vs c.item-item.result c.loop-item-test.true c.item-item.is)
          ∙ files-next c.args.entry c.loop-item.number c.loop-item.files.items _ (view c.item-item.result) (values_from (i + 1) vs) c.in_ok-file.file c.in_ok-file.ensures c.in_ok-push.ensures.items,
    )

pub returns : goal.returns
returns c =
    c.loop-item.invariant.1
    ∙ ap (λ ds. behind c.loop-item.files.items (files_from c.args.entry c.loop-item.number ds)) (values-end c.loop-item.item-index c.args.items.now (omega arith))
    ∙ files-end c.args.entry c.loop-item.number c.loop-item.files.items
