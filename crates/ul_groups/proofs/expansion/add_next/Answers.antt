use Rattle.std.proofs.Common.{◌≡◌, ◌∙◌, ◌<◌, ◌^◌, ◌-◌, ◌++◌, ◌∷◌, ℕ, List, [], ap, arith, length, refl, subst, sym}
use Rattle.std.proofs.lemmas.Result.{err_from_is_err_and}
use Rattle.ul_project.specs.Groups.{GroupFields}
use Rattle.ul_groups.specs.Expanded.{deepest}
use Rattle.ul_groups.specs.GroupMaps.{groups_in, list_fields}
use Rattle.ul_groups.specs.Opened.{left_of, opened}
use Rattle.ul_groups.specs.Turns.{turns_left}
use Rattle.ul_groups.proofs.Opened.{next_ends, next_enters, next_refused}
use Rattle.ul_groups.proofs.Turns.{end_turns, next_turns}
use Rattle.ul_groups.proofs.expansion.add_next.Goals as goal

pub returns-then-number-entries-clause-list : goal.returns-then-number-entries-clause-list
returns-then-number-entries-clause-list c =
    let groups = groups_in c.args.groups.now.entries in
    let g = c.args.innermost.group.now in
    let list = list_fields c.args.list.now.items c.args.begun.now.keys c.args.done.now.keys in
    let same : c.as_slice-entries.result.now ≡ g.entries = c.as_slice-entries.ensures.value ∙ ap (λ (f : GroupFields). f.entries) c.group.view_is in
    next_ends groups (deepest - 1) (opened c.args.opens.now.items) g c.args.innermost.number list (omega (arith, c.if-number-entries.true, ap length same))
    ∙ ap (λ (done : List (List ℕ)). left_of groups (opened c.args.opens.now.items) (list_fields c.args.list.now.items c.args.begun.now.keys done)) (sym c.in_ok-end.ensures)

pub returns-in_err-included-clause-list : goal.returns-in_err-included-clause-list
returns-in_err-included-clause-list c =
    let groups = groups_in c.args.groups.now.entries in
    let n = c.args.innermost.number in
    let inside : GroupFields = record { name = c.group.inside.name; entries = c.group.inside.entries.items } in
    let g : GroupFields = c.args.innermost.group.now in
    let same : inside ≡ g = c.group.view_is in
    let e = c.index-entries-number.result in
    let lt : n < length inside.entries = omega (arith, c.if-number-entries.false, ap length c.as_slice-entries.ensures.value) in
    let is = rw c.as_slice-entries.ensures.value at c.index-entries-number.is in
    let list = list_fields c.args.list.now.items c.args.begun.now.keys c.args.done.now.keys in
    let after = list_fields c.add_entry.new.list.items c.add_entry.new.begun.keys c.args.done.now.keys in
    let p = err_from_is_err_and c.from_residual-in_err-included.result c.from_residual-in_err-included.ensures.1 in
    rw (p.1, p.2)
    (next_refused c.from_residual-in_err-included.result groups (opened c.args.opens.now.items) g inside n e list after (left_of groups (opened c.args.opens.now.items) after) c.in_err-included.field-0.0 same lt is c.in_err-included.ensures.entry)

pub returns-clause-list : goal.returns-clause-list
returns-clause-list c =
    let groups = groups_in c.args.groups.now.entries in
    let n = c.args.innermost.number in
    let inside : GroupFields = record { name = c.group.inside.name; entries = c.group.inside.entries.items } in
    let g : GroupFields = c.args.innermost.group.now in
    let same : inside ≡ g = c.group.view_is in
    let e = c.index-entries-number.result in
    let lt : n < length inside.entries = omega (arith, c.if-number-entries.false, ap length c.as_slice-entries.ensures.value) in
    let is = rw c.as_slice-entries.ensures.value at c.index-entries-number.is in
    let list = list_fields c.args.list.now.items c.args.begun.now.keys c.args.done.now.keys in
    let after = list_fields c.add_entry.new.list.items c.add_entry.new.begun.keys c.args.done.now.keys in
    let few : length c.args.opens.now.items < 2 ^ 63 = omega (arith, c.args.opens.now.ok, c.args.opens.now.small) in
    subst (λ (f : GroupFields). left_of groups (opened c.args.opens.now.items ++ (f, n) ∷ []) list ≡ left_of groups (opened c.open_inner.new.opens.items) after) same
    (next_enters groups c.args.opens.now.items c.push.new.self.items inside n _ (opened c.open_inner.new.opens.items) e list after c.in_ok-included.included
    lt is few (sym same) refl c.in_ok-push.ensures.items c.in_ok-open_inner.ensures c.in_ok-included.ensures.entry)

pub returns-then-number-entries-clause-turns : goal.returns-then-number-entries-clause-turns
returns-then-number-entries-clause-turns c =
    end_turns c.args.groups.now.entries (opened c.args.opens.now.items) (c.args.innermost.group.now, c.args.innermost.number) c.args.begun.now.keys

pub returns-clause-turns : goal.returns-clause-turns
returns-clause-turns c =
    let inside : GroupFields = record { name = c.group.inside.name; entries = c.group.inside.entries.items } in
    let g : GroupFields = c.args.innermost.group.now in
    let n = c.args.innermost.number in
    let lt : n < length inside.entries = omega (arith, c.if-number-entries.false, ap length c.as_slice-entries.ensures.value) in
    let same : inside ≡ g = c.group.view_is in
    subst
    (λ (f : GroupFields). turns_left c.args.groups.now.entries (opened c.open_inner.new.opens.items) c.add_entry.new.begun.keys
    < turns_left c.args.groups.now.entries (opened c.args.opens.now.items ++ (f, n) ∷ []) c.args.begun.now.keys) same
    (next_turns c.args.groups.now.entries c.args.opens.now.items c.push.new.self.items inside n _ (opened c.open_inner.new.opens.items) c.args.begun.now.keys
    c.add_entry.new.begun.keys c.in_ok-included.included lt (sym same) refl c.in_ok-push.ensures.items c.in_ok-open_inner.ensures c.in_ok-included.ensures.turns)
