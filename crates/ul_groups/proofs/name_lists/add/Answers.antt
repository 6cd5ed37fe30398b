use Rattle.std.proofs.Common.{◌≡◌, ◌++◌, ◌∷◌, ◌∙◌, ℕ, List, [], cond, ap, subst}
use Rattle.std.specs.BTreeMap.{is_at}
use Rattle.ul_base.specs.Names.{name_cmp}
use Rattle.ul_requirement.specs.Fields.{RequirementFields}
use Rattle.ul_groups.specs.NameLists.{at_name}
use Rattle.ul_groups.proofs.NameLists.{added}
use Rattle.ul_groups.proofs.name_lists.add.Goals as goal

pub returns : goal.returns
returns c =
    let before = c.taken.result.items in
    let one = c.in_ok-list.ensures in
    let copied : one.0 ≡ c.args.requirement.now = rw one.1 at c.copy.ensures in
    let more : c.in_ok-list-2.list.items ≡ before ++ c.args.requirement.now ∷ [] =
    rw c.in_ok-list-2.ensures.0 (one.2 ∙ ap (λ (q : RequirementFields). before ++ q ∷ []) copied) in
    let name = rw c.in_ok-list-2.ensures.1 at c.copy-2.ensures in
    added c.requirement.inside.name c.args.requirement.now before c.in_ok-list-2.list.items c.args.lists.now.entries
    c.taken.new.lists.entries c.put.new.lists.entries (ap (λ (q : RequirementFields). q.name) c.requirement.view_is)
    c.taken.ensures.list more c.taken.ensures.others
    (subst
    (λ (n : List ℕ). (other : List ℕ) → at_name c.put.new.lists.entries other ≡ cond (is_at (name_cmp n) other) c.in_ok-list-2.list.items (at_name c.taken.new.lists.entries other))
    name c.in_ok-put.ensures)
