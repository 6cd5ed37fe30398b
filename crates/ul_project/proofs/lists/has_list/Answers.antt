use Rattle.std.proofs.Common.{◌∙◌}
use Rattle.ul_project.proofs.NamedLists.{list_found}
use Rattle.ul_project.proofs.lists.has_list.Goals as goal

pub returns : goal.returns
returns g c = c.contains_key.ensures ∙ list_found c.args.name.now c.args.lists.now.entries
