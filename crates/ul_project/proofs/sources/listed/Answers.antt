use Rattle.std.proofs.Common.{◌+◌, ℕ, List, arith, ◌∙◌, ap}
use Rattle.std.proofs.lemmas.Result.{err_from_is_err_and}
use Rattle.std.specs.declared.alloc.Global.{Global}
use Rattle.toml.specs.Data.{Data}
use Rattle.toml.specs.View.{items_view, view}
use Rattle.ul_project.specs.Answers.{list_view}
use Rattle.ul_project.specs.Results.{each_from}
use Rattle.ul_project.specs.Sources.{SaidSource, source_at, sources_path}
use Rattle.ul_project.specs.Shapes.{Reading}
use Rattle.ul_project.specs.Toml.{items_list}
use Rattle.ul_project.proofs.EachRead.{behind, each-end, each-fault, each-next, each-start, read-err}
use Rattle.ul_project.proofs.Values.{values-end, values-next, values_from}
use Rattle.ul_project.proofs.sources.listed.Goals as goal

-- how each value is read
abbrev reads : List ℕ → ℕ → Data → Reading SaidSource
reads name i d = source_at (sources_path name) d

pub loop-item-init : goal.loop-item-init
loop-item-init c = each-start c.new-list.result.items (each_from (reads c.args.name.now) 0 (items_list (items_view c.args.items.now))) c.new-list.ensures.items

pub returns-in_err-list : goal.returns-in_err-list
returns-in_err-list c =
    let p = err_from_is_err_and c.from_residual.result c.from_residual.ensures.1 in
    let i = c.loop-item.item-index in
    let vs = c.args.items.now in
    let read = reads c.args.name.now in
    rw (p.1, p.2)
    (read-err (λ x. x) (list_view {Z = Global}) c.source_at.result c.in_err-list.field-0.0 _ _ c.in_err-list.ensures c.source_at.ensures
    (λ f e. c.loop-item.invariant
    ∙ ap (λ ds. behind c.loop-item.list.items (each_from read i ds)) (values-next i vs c.item-item.result c.loop-item-test.true c.item-item.is)
    ∙ each-fault read i c.loop-item.list.items (view c.item-item.result) (values_from (i + 1) vs) f e))

pub loop-item-preserved : goal.loop-item-preserved
loop-item-preserved c =
    let i = c.loop-item.item-index in
    let vs = c.args.items.now in
    let read = reads c.args.name.now in
    let more = c.in_ok-list.ensures in
    c.loop-item.invariant
    ∙ ap (λ ds. behind c.loop-item.list.items (each_from read i ds)) (values-next i vs c.item-item.result c.loop-item-test.true c.item-item.is)
    ∙ each-next read i c.loop-item.list.items _ (view c.item-item.result) (values_from (i + 1) vs) more.0 (rw more.1 at c.source_at.ensures) more.2

pub returns : goal.returns
returns c =
    let read = reads c.args.name.now in
    c.loop-item.invariant
    ∙ ap (λ ds. behind c.loop-item.list.items (each_from read c.loop-item.item-index ds)) (values-end c.loop-item.item-index c.args.items.now (omega arith))
    ∙ each-end read c.loop-item.item-index c.loop-item.list.items
