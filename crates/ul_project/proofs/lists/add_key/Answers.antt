use Rattle.std.proofs.Common.{◌∙◌, sym}
use Rattle.ul_project.specs.Lists.{names_of}
use Rattle.ul_project.proofs.NamedLists.{name_new}
use Rattle.ul_project.proofs.lists.add_key.Goals as goal

pub returns-clause-new : goal.returns-clause-new
returns-clause-new g c =
    name_new (names_of c.args.extras.now.entries) c.args.earlier.now.keys c.in-Some.name _ c.in_ok-added.added (sym c.in_ok-name.ensures ∙ c.in-Some.is)
    (sym c.in_ok-is_taken.ensures ∙ c.if-branch.false) c.in_ok-added.ensures.added

pub returns-clause-noted : goal.returns-clause-noted
returns-clause-noted g c new = rw (sym c.in_ok-name.ensures ∙ c.in-Some.is) c.in_ok-added.ensures.keys
