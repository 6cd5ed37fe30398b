use Rattle.std.proofs.Common.{◌∙◌, ◌∷◌, ℕ, List, [], Ok, ap}
use Rattle.std.proofs.lemmas.Result.{err_from_is_err_and}
use Rattle.std.specs.BTreeSet.{insert_key}
use Rattle.std.specs.declared.alloc.Global.{Global}
use Rattle.ul_base.specs.Names.{name_cmp}
use Rattle.ul_project.specs.Answers.{list_view}
use Rattle.ul_project.specs.Groups.{GroupFields}
use Rattle.ul_project.specs.Results.{◌>>=◌}
use Rattle.ul_groups.specs.Expanded.{Expanding, ListFields}
use Rattle.ul_groups.specs.GroupMaps.{groups_in, list_fields}
use Rattle.ul_groups.specs.Opened.{opened}
use Rattle.ul_groups.proofs.Opened.{list_from, list_stops}
use Rattle.ul_groups.proofs.expansion.group_list.Goals as goal

pub returns-in_err-add_all : goal.returns-in_err-add_all
returns-in_err-add_all c =
    let p = err_from_is_err_and c.from_residual-in_err-add_all.result c.from_residual-in_err-add_all.ensures.1 in
    let from_nothing =
    list_from (groups_in c.args.groups.now.entries) c.args.group.now (opened c.in_ok-opens.opens.items) c.new-list.result.items
    c.insert.new.self.keys c.new-done.result.keys c.in_ok-opens.ensures c.new-list.ensures.items
    (c.in_ok-_new.ensures.keys ∙ ap (λ (ks : List (List ℕ)). insert_key name_cmp ks c.in_ok-copy.field-0) c.new-begun.ensures.empty
    ∙ ap (λ (n : List ℕ). n ∷ []) (c.in_ok-copy.ensures ∙ ap (λ (g : GroupFields). g.name) c.group.view_is))
    c.new-done.ensures.empty in
    rw (p.1, p.2)
    (list_stops c.add_all.result (λ _. list_fields c.add_all.new.list.items c.add_all.new.begun.keys c.add_all.new.done.keys) (list_view {Z = Global}) c.in_err-add_all.field-0.0 _ _
    (λ stop e. from_nothing ∙ ap (λ (r : Expanding ListFields). r >>= λ after. Ok after.requirements) e) c.in_err-add_all.ensures)

pub returns : goal.returns
returns c =
    list_from (groups_in c.args.groups.now.entries) c.args.group.now (opened c.in_ok-opens.opens.items) c.new-list.result.items
    c.insert.new.self.keys c.new-done.result.keys c.in_ok-opens.ensures c.new-list.ensures.items
    (c.in_ok-_new.ensures.keys ∙ ap (λ (ks : List (List ℕ)). insert_key name_cmp ks c.in_ok-copy.field-0) c.new-begun.ensures.empty
    ∙ ap (λ (n : List ℕ). n ∷ []) (c.in_ok-copy.ensures ∙ ap (λ (g : GroupFields). g.name) c.group.view_is))
    c.new-done.ensures.empty
    ∙ ap (λ (r : Expanding ListFields). r >>= λ after. Ok after.requirements) c.in_ok-add_all.ensures
