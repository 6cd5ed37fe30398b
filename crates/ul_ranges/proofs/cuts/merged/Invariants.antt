use Rattle.std.proofs.Common.{◌≡◌, ◌+◌, ◌-◌, ◌≤◌, ◌++◌, drop, length}
use Rattle.ul_ranges.proofs.Merging.{merged}
use Rattle.ul_ranges.proofs.cuts.merged.Given as goal

abbrev pub invariant-merge : goal.invariant-merge
invariant-merge l = record {
  left : l.i ≤ length l.xs;
  right : l.j ≤ length l.ys;
  whole : l.all.items ++ merged (drop l.i l.xs) (drop l.j l.ys) ≡ merged l.xs l.ys;
}

abbrev pub decreases-merge : goal.decreases-merge
decreases-merge l = (length l.xs - l.i) + (length l.ys - l.j)
