use Rattle.std.proofs.Common.{◌≡◌, ◌-◌, sum, take}
use Rattle.ul_groups.proofs.extras.own_size.Given as goal

abbrev pub invariant-loop-size : goal.invariant-loop-size
invariant-loop-size l = l.own ≡ l.count - sum (take l.size-index l.sizes)
