use Rattle.std.proofs.Common.{◌∙◌, ap}
use Rattle.ul_commands.specs.RootExtras.{root_is_among}
use Rattle.ul_commands.proofs.RootExtras.{decided_by}
use Rattle.ul_commands.proofs.root_extras.lists_no_other.Goals as goal

pub returns : goal.returns
returns c =
    decided_by c.args.project.now c.args.lock.now c.in_ok-names.names.keys c.root_is_among.result c.in_ok-names.ensures
    (c.root_is_among.ensures ∙ ap (root_is_among c.in_ok-names.names.keys c.args.lock.now.root) c.as_slice.ensures)
