use Rattle.std.proofs.Common.{◌+◌, ◌-◌, ◌≤◌, length, take}
use Rattle.ul_problem.proofs.Merging.{Merges}
use Rattle.ul_problem.proofs.resolving.is_merged.Given as goal

abbrev pub invariant-loop-i : goal.invariant-loop-i
invariant-loop-i l = record {
  within : l.place ≤ length l.terms;
  merges : Merges l.node l.left l.right (take l.place l.terms) l.i l.j;
}

abbrev pub decreases-loop-i : goal.decreases-loop-i
decreases-loop-i l = (length l.left - l.i) + (length l.right - l.j)
