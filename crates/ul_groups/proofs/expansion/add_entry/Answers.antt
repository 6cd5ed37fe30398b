use Rattle.ul_groups.proofs.expansion.add_entry.Goals as goal

pub returns-in-Include-clause-entry : goal.returns-in-Include-clause-entry
returns-in-Include-clause-entry c = rw c.in-Include.is (c.include.ensures.entry c.args.list.now.items)
