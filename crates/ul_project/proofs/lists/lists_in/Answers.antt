use Rattle.std.proofs.Common.{ap, ◌∙◌, string_bytes}
use Rattle.std.proofs.lemmas.Result.{err_from_is_err_and}
use Rattle.std.specs.declared.alloc.Global.{Global}
use Rattle.toml.specs.View.{members_view, view}
use Rattle.ul_project.specs.Answers.{list_view}
use Rattle.ul_project.specs.Lists.{lists_in}
use Rattle.ul_project.specs.Shapes.{at_key, shape}
use Rattle.ul_project.proofs.EachRead.{behind, each-start, read-err}
use Rattle.ul_project.proofs.NamedLists.{lists-end, lists-fault, lists-next}
use Rattle.ul_project.proofs.lists.lists_in.Goals as goal

pub loop-key-init : goal.loop-key-init
loop-key-init g c =
    let read = g.L.NamedList.list_at c.args.profile in
    let no = shape (at_key c.args.place) in
    rw (c.into_iter-key-iterator.ensures.into_iter_gives, c.iter-key-items.ensures.rest)
    (each-start c.new-lists.result.items (lists_in no read (members_view c.args.table.now.entries)) c.new-lists.ensures.items)

pub returns-in_err-lists : goal.returns-in_err-lists
returns-in_err-lists g c =
    let p = err_from_is_err_and c.from_residual.result c.from_residual.ensures.1 in
    let read = g.L.NamedList.list_at c.args.profile in
    let no = shape (at_key c.args.place) in
    rw (p.1, p.2)
    (read-err (λ l. l) (list_view {Z = Global}) c.list_at.result c.in_err-lists.field-0.0 _ _ c.in_err-lists.ensures
    (rw c.as_str.ensures.value at c.list_at.ensures)
    (λ f e. c.loop-key.invariant
    ∙ ap (λ es. behind c.loop-key.lists.items (lists_in no read (members_view es))) c.in-Some.ensures.steps
    ∙ lists-fault no read c.loop-key.lists.items (string_bytes c.in-Some.key.now) (view c.in-Some.value.now) (members_view c.next.new.self) f e))

pub loop-key-preserved : goal.loop-key-preserved
loop-key-preserved g c =
    let read = g.L.NamedList.list_at c.args.profile in
    let no = shape (at_key c.args.place) in
    let more = c.in_ok-lists.ensures in
    c.loop-key.invariant
    ∙ ap (λ es. behind c.loop-key.lists.items (lists_in no read (members_view es))) c.in-Some.ensures.steps
    ∙ lists-next no read c.loop-key.lists.items _ (string_bytes c.in-Some.key.now) (view c.in-Some.value.now) (members_view c.next.new.self) more.0
    (rw (c.as_str.ensures.value, more.1) at c.list_at.ensures) more.2

pub returns : goal.returns
returns g c =
    let read = g.L.NamedList.list_at c.args.profile in
    let no = shape (at_key c.args.place) in
    c.loop-key.invariant
    ∙ ap (λ es. behind c.loop-key.lists.items (lists_in no read (members_view es))) c.in-None.ensures.steps.0
    ∙ lists-end no read c.loop-key.lists.items
