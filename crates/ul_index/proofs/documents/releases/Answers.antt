use Rattle.std.proofs.Common.{◌+◌, [], arith, refl, ◌∙◌, ap}
use Rattle.std.proofs.lemmas.Result.{err_from_is_err_and}
use Rattle.std.specs.declared.alloc.Global.{Global}
use Rattle.serde_json.specs.View.{items_view, view}
use Rattle.ul_index.specs.Answers.{releases_view}
use Rattle.ul_index.specs.Documents.{entries_from}
use Rattle.ul_index.specs.Json.{items_list}
use Rattle.ul_index.specs.Usable.{versions_with}
use Rattle.ul_index.proofs.Faults.{Gives-err}
use Rattle.ul_index.proofs.UsableReleases.{releases-end, releases-fault, releases-next, releases-start, releases_behind, releases_differ}
use Rattle.ul_index.proofs.Values.{values-end, values-next, values_from}
use Rattle.ul_index.proofs.documents.releases.Goals as goal

pub loop-item-init : goal.loop-item-init
loop-item-init c = (refl, ([], c.new-seen.ensures, releases-start c.new-list.result.items (items_list (items_view c.args.items.now)) c.new-list.ensures.items))

pub returns-in_err-entry-clause-releases : goal.returns-in_err-entry-clause-releases
returns-in_err-entry-clause-releases c =
    let p = err_from_is_err_and c.from_residual-in_err-entry.result c.from_residual-in_err-entry.ensures.1 in
    let i = c.loop-item.item-index in
    let vs = c.args.items.now in
    let n = c.loop-item.number in
    let found = c.loop-item.list.items in
    let earlier = c.loop-item.invariant.1.0 in
    rw (p.1, p.2)
    (Gives-err (λ e. e) (releases_view {Z = Global}) c.in_err-entry.field-0.0 _ _
    (λ f e. c.loop-item.invariant.1.2
    ∙ ap (λ ds. releases_behind found earlier (entries_from n ds)) (values-next i vs c.item-item.result c.loop-item-test.true c.item-item.is)
    ∙ releases-fault n found earlier (view c.item-item.result) (values_from (i + 1) vs) f e)
    c.in_err-entry.ensures)

pub loop-item-preserved : goal.loop-item-preserved
loop-item-preserved c =
    let i = c.loop-item.item-index in
    let vs = c.args.items.now in
    let n = c.loop-item.number in
    let found = c.loop-item.list.items in
    let earlier = c.loop-item.invariant.1.0 in
    let t = c.in_ok-release.ensures earlier c.loop-item.invariant.1.1 in (
      omega arith,
      (
        versions_with earlier c.in_ok-entry.entry.version,
        t.1,
        c.loop-item.invariant.1.2
            ∙ ap (λ ds. releases_behind found earlier (entries_from n ds)) (values-next i vs c.item-item.result c.loop-item-test.true c.item-item.is)
            ∙ releases-next n found _ earlier (view c.item-item.result) (values_from (i + 1) vs) c.in_ok-entry.entry c.in_ok-release.release c.in_ok-entry.ensures t.0 c.in_ok-add.ensures,
      ),
    )

pub returns-clause-releases : goal.returns-clause-releases
returns-clause-releases c =
    let found = c.loop-item.list.items in
    let earlier = c.loop-item.invariant.1.0 in
    c.loop-item.invariant.1.2
    ∙ ap (λ ds. releases_behind found earlier (entries_from c.loop-item.number ds)) (values-end c.loop-item.item-index c.args.items.now (omega arith))
    ∙ releases-end c.loop-item.number found earlier

pub returns-clause-differ : goal.returns-clause-differ
returns-clause-differ c =
    let found = c.loop-item.list.items in
    let earlier = c.loop-item.invariant.1.0 in
    releases_differ (items_list (items_view c.args.items.now)) found
    (c.loop-item.invariant.1.2
    ∙ ap (λ ds. releases_behind found earlier (entries_from c.loop-item.number ds)) (values-end c.loop-item.item-index c.args.items.now (omega arith))
    ∙ releases-end c.loop-item.number found earlier)
