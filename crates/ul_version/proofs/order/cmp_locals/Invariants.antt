use Rattle.std.proofs.Common.{◌≡◌, ◌≤◌, length, drop}
use Rattle.ul_version.specs.Order.{local_cmp}
use Rattle.ul_version.proofs.order.cmp_locals.Given as goal

abbrev pub invariant-loop-i : goal.invariant-loop-i
invariant-loop-i l = (l.i ≤ length l.ys) × (local_cmp l.xs l.ys ≡ local_cmp (drop l.i l.xs) (drop l.i l.ys))
