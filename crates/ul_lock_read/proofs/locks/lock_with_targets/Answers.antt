use Rattle.std.proofs.Common.{sym, ◌∙◌}
use Rattle.ul_lock_read.proofs.WithoutTargets.{none_without_target}
use Rattle.ul_lock_read.proofs.locks.lock_with_targets.Goals as goal

pub returns-in-None : goal.returns-in-None
returns-in-None c =
    (record { root = c.requires.root; targets = none_without_target c.args.sheet.packages (sym c.place_without_target.ensures ∙ c.in-None.is) }, c.lock_from.ensures)
