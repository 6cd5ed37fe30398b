use Rattle.std.proofs.Common.{◌≡◌, drop}
use Rattle.ul_lock.specs.Targets.{lists}
use Rattle.ul_lock_read.proofs.targets.has_extra.Given as goal

abbrev pub invariant-loop-extra : goal.invariant-loop-extra
invariant-loop-extra l = lists (drop l.extra-index l.extras) l.name ≡ lists l.extras l.name
