use Rattle.std.proofs.Common.{◌+◌, ◌-◌, length}
use Rattle.ul_problem.proofs.Merging.{Merges}
use Rattle.ul_problem.proofs.resolving.merged.Given as goal

abbrev pub invariant-loop-i : goal.invariant-loop-i
invariant-loop-i l = Merges l.node l.left l.right l.terms.items l.i l.j

abbrev pub decreases-loop-i : goal.decreases-loop-i
decreases-loop-i l = (length l.left - l.i) + (length l.right - l.j)
