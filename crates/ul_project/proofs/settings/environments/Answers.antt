use Rattle.std.proofs.Common.{◌+◌, arith, ◌∙◌, ap, map}
use Rattle.std.proofs.lemmas.Result.{err_from_is_err_and}
use Rattle.std.specs.declared.alloc.Global.{Global}
use Rattle.toml.specs.View.{view}
use Rattle.ul_marker.specs.Views.{marker_view}
use Rattle.ul_project.specs.Answers.{formulas_view}
use Rattle.ul_project.specs.Results.{each_from}
use Rattle.ul_project.specs.Settings.{environment_at}
use Rattle.ul_project.proofs.EachRead.{behind, each-end, each-fault, each-next, read-err}
use Rattle.ul_project.proofs.Environments.{valid_push, view_push}
use Rattle.ul_project.proofs.Values.{values-end, values-next, values_from}
use Rattle.ul_project.proofs.settings.environments.Goals as goal

pub returns-in_err-list-clause-markers : goal.returns-in_err-list-clause-markers
returns-in_err-list-clause-markers c =
    let p = err_from_is_err_and c.from_residual.result c.from_residual.ensures.1 in
    let i = c.loop-item.item-index in
    let vs = c.args.items.now in
    rw (p.1, p.2)
    (read-err marker_view (formulas_view {Z = Global}) c.environment_at.result c.in_err-list.field-0.0 _ _ c.in_err-list.ensures c.environment_at.ensures.marker
    (λ f e. c.loop-item.invariant.left
    ∙ ap (λ ds. behind (map marker_view c.loop-item.list.items) (each_from environment_at c.loop-item.number ds)) (values-next i vs c.item-item.result c.loop-item-test.true c.item-item.is)
    ∙ each-fault environment_at c.loop-item.number (map marker_view c.loop-item.list.items) (view c.item-item.result) (values_from (i + 1) vs) f e))

pub loop-item-preserved : goal.loop-item-preserved
loop-item-preserved c =
    let i = c.loop-item.item-index in
    let vs = c.args.items.now in
    let more = c.in_ok-list.ensures in
    record {
      number = omega arith;
      left = c.loop-item.invariant.left
          ∙ ap (λ ds. behind (map marker_view c.loop-item.list.items) (each_from environment_at c.loop-item.number ds)) (values-next i vs c.item-item.result c.loop-item-test.true c.item-item.is)
          ∙ each-next environment_at c.loop-item.number (map marker_view c.loop-item.list.items) _ (view c.item-item.result) (values_from (i + 1) vs) (marker_view more.0)
          (rw more.1 at c.environment_at.ensures.marker) (view_push c.loop-item.list.items _ more.0 more.2);
      valid = valid_push c.loop-item.list.items _ more.0 more.2 c.loop-item.invariant.valid (rw more.1 at c.environment_at.ensures.valid);
    }

pub returns-clause-markers : goal.returns-clause-markers
returns-clause-markers c =
    c.loop-item.invariant.left
    ∙ ap (λ ds. behind (map marker_view c.loop-item.list.items) (each_from environment_at c.loop-item.number ds)) (values-end c.loop-item.item-index c.args.items.now (omega arith))
    ∙ each-end environment_at c.loop-item.number (map marker_view c.loop-item.list.items)
