use Rattle.std.proofs.Common.{◌≡◌, ◌==◌, ◌++◌, ◌∙◌, ap, arith, length, map, refl, sym}
use Rattle.ul_project.specs.DevDependencies.{dev, entries_of}
use Rattle.ul_project.specs.Lists.{put_list}
use Rattle.ul_project.specs.declared.group.GroupEntry.TheVariants.{Needs}
use Rattle.ul_project.proofs.DevGroup.{dev_added}
use Rattle.ul_project.proofs.dev.add_dev.Goals as goal

pub returns : goal.returns
returns c =
    let lists = c.args.lists.now.entries in
    let taken : c.in_ok-requirements.entries.items ≡ entries_of dev lists = rw c.in_ok-requirements.ensures.1 at c.taken_entries.ensures.taken in
    let entries : c.in_ok-list-2.list.items ≡ entries_of dev lists ++ map Needs c.args.requirements.items =
    rw (c.in_ok-list-2.ensures.0, c.in_ok-list.ensures, taken, c.in_ok-requirements.ensures.0) refl in
    let count : length c.args.requirements.items ≡ c.args.requirements.len = omega (arith, c.args.requirements.ok) in
    dev_added lists c.taken_entries.new.lists.entries c.insert.new.self.entries c.in_ok-list-2.name c.in_ok-list-2.list.items c.args.requirements.items
    (rw c.in_ok-requirements.ensures.1 at c.taken_entries.ensures.left) (rw c.in_ok-list-2.ensures.1 at c.dev_name.ensures) entries
    (ap (λ n. n == 0) count ∙ sym c.is_empty.ensures ∙ c.if-is_empty.false) c.in_ok-insert.ensures.entries
