use Rattle.std.proofs.Common.{◌∙◌, ap, sym}
use Rattle.std.specs.BTreeSet.{insert_key}
use Rattle.ul_base.specs.Names.{name_cmp}
use Rattle.ul_groups.specs.GroupMaps.{groups_in, list_fields}
use Rattle.ul_groups.proofs.Opened.{include_opens}
use Rattle.ul_groups.proofs.Turns.{include_turns}
use Rattle.ul_groups.proofs.expansion.include.Goals as goal

pub returns-clause-entry : goal.returns-clause-entry
returns-clause-entry c list expand =
    let groups = groups_in c.args.groups.now.entries in
    let found = sym c.in-Some.ensures in
    include_opens expand _ c.args.name.now (groups c.args.name.now) (list_fields list c.args.begun.now.keys c.args.done.now.keys) c.in-Some.found.now
    c.insert.new.self.keys found (c.requires c.args.name.now c.in-Some.found.now found) (sym c.contains.ensures ∙ c.if-contains.false)
    (sym c.contains-2.ensures ∙ c.if-contains-2.false)
    (c.in_ok-_new.ensures.keys ∙ ap (λ n. insert_key name_cmp c.args.begun.now.keys n) c.in_ok-copy.ensures)

pub returns-clause-turns : goal.returns-clause-turns
returns-clause-turns c =
    include_turns c.args.groups.now.entries c.args.begun.now.keys c.insert.new.self.keys c.args.name.now c.in-Some.found (sym c.in-Some.ensures)
    (sym c.contains-2.ensures ∙ c.if-contains-2.false)
    (c.in_ok-_new.ensures.keys ∙ ap (λ n. insert_key name_cmp c.args.begun.now.keys n) c.in_ok-copy.ensures)
