use Rattle.std.proofs.Common.{arith, ◌∙◌, ap}
use Rattle.std.proofs.lemmas.List.{nil_from_length}
use Rattle.std.proofs.lemmas.Result.{err_from_is_err_and}
use Rattle.std.specs.Vec.Iter.{into_iter_items}
use Rattle.std.specs.declared.alloc.Global.{Global}
use Rattle.ul_project.specs.Answers.{list_view}
use Rattle.ul_project.specs.Results.{each_from}
use Rattle.ul_project.specs.Sources.{supported}
use Rattle.ul_project.proofs.EachRead.{behind, each-start, read-err, unnumbered-end, unnumbered-fault, unnumbered-next}
use Rattle.ul_project.proofs.sources.each_supported.Goals as goal

pub loop-name-init : goal.loop-name-init
loop-name-init c =
    rw c.into_iter-name-iterator.ensures.into_iter_gives.0
    (each-start c.new-list.result.items (each_from (λ i s. supported s) 0 c.args.said.items) c.new-list.ensures.items)

pub returns-in_err-list : goal.returns-in_err-list
returns-in_err-list c =
    let p = err_from_is_err_and c.from_residual.result c.from_residual.ensures.1 in
    rw (p.1, p.2)
    (read-err (λ x. x) (list_view {Z = Global}) c.supported.result c.in_err-list.field-0.0 _ _ c.in_err-list.ensures c.supported.ensures
    (λ f e. c.loop-name.invariant
    ∙ unnumbered-fault supported c.loop-name.list.items (into_iter_items c.loop-name.name-iterator) (into_iter_items c.next.new.self) (c.in-Some.name, c.in-Some.sources) f
    c.in-Some.ensures.steps.0 e))

pub loop-name-preserved : goal.loop-name-preserved
loop-name-preserved c =
    let more = c.in_ok-list.ensures in
    c.loop-name.invariant
    ∙ unnumbered-next supported c.loop-name.list.items _ (into_iter_items c.loop-name.name-iterator) (into_iter_items c.next.new.self) (c.in-Some.name, c.in-Some.sources) more.0
    c.in-Some.ensures.steps.0 (rw more.1 at c.supported.ensures) more.2

pub returns : goal.returns
returns c =
    c.loop-name.invariant
    ∙ unnumbered-end supported c.loop-name.list.items (into_iter_items c.loop-name.name-iterator)
    (nil_from_length (into_iter_items c.loop-name.name-iterator) (omega (arith, c.in-None.ensures.steps.0, c.loop-name.name-iterator.rest.ok)))
