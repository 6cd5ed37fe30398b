use Rattle.std.proofs.Common.{◌+◌, arith, ◌∙◌, ap, refl}
use Rattle.std.proofs.lemmas.Result.{err_from_is_err_and}
use Rattle.std.specs.declared.alloc.Global.{Global}
use Rattle.toml.specs.View.{items_view, view}
use Rattle.ul_project.specs.Answers.{list_view, place_of}
use Rattle.ul_project.specs.Requirements.{bound_at}
use Rattle.ul_project.specs.Results.{each_from}
use Rattle.ul_project.specs.Toml.{items_list}
use Rattle.ul_project.proofs.EachRead.{behind, each-end, each-fault, each-next, each-start, read-err}
use Rattle.ul_project.proofs.Values.{values-end, values-next, values_from}
use Rattle.ul_project.proofs.requirements.bounds.Goals as goal

pub loop-item-init : goal.loop-item-init
loop-item-init c = (refl, each-start c.new-list.result.items (each_from (bound_at c.args.profile (place_of c.args.place)) 0 (items_list (items_view c.args.items.now))) c.new-list.ensures.items)

pub returns-in_err-list : goal.returns-in_err-list
returns-in_err-list c =
    let p = err_from_is_err_and c.from_residual.result c.from_residual.ensures.1 in
    let i = c.loop-item.item-index in
    let vs = c.args.items.now in
    let read = bound_at c.args.profile (place_of c.args.place) in
    rw (p.1, p.2)
    (read-err (λ x. x) (list_view {Z = Global}) c.bound_at.result c.in_err-list.field-0.0 _ _ c.in_err-list.ensures c.bound_at.ensures
    (λ f e. c.loop-item.invariant.1
    ∙ ap (λ ds. behind c.loop-item.list.items (each_from read c.loop-item.number ds)) (values-next i vs c.item-item.result c.loop-item-test.true c.item-item.is)
    ∙ each-fault read c.loop-item.number c.loop-item.list.items (view c.item-item.result) (values_from (i + 1) vs) f e))

pub loop-item-preserved : goal.loop-item-preserved
loop-item-preserved c =
    let i = c.loop-item.item-index in
    let vs = c.args.items.now in
    let read = bound_at c.args.profile (place_of c.args.place) in
    let more = c.in_ok-list.ensures in (
      omega arith,
      c.loop-item.invariant.1
          ∙ ap (λ ds. behind c.loop-item.list.items (each_from read c.loop-item.number ds)) (values-next i vs c.item-item.result c.loop-item-test.true c.item-item.is)
          ∙ each-next read c.loop-item.number c.loop-item.list.items _ (view c.item-item.result) (values_from (i + 1) vs) more.0 (rw more.1 at c.bound_at.ensures) more.2,
    )

pub returns : goal.returns
returns c =
    let read = bound_at c.args.profile (place_of c.args.place) in
    c.loop-item.invariant.1
    ∙ ap (λ ds. behind c.loop-item.list.items (each_from read c.loop-item.number ds)) (values-end c.loop-item.item-index c.args.items.now (omega arith))
    ∙ each-end read c.loop-item.number c.loop-item.list.items
