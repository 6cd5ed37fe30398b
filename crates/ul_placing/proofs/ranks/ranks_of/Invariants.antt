use Rattle.std.proofs.Common.{◌≡◌, ◌≤◌, ◌++◌, drop}
use Rattle.ul_placing.specs.Ranks.{ranks_from}
use Rattle.ul_placing.proofs.ranks.ranks_of.Given as goal

abbrev pub invariant-loop-one : goal.invariant-loop-one
invariant-loop-one l = record {
  small : l.rank ≤ l.one-index;
  ranks : l.ranks.items ++ ranks_from l.rank (drop l.one-index l.aims) ≡ ranks_from 0 l.aims;
}
