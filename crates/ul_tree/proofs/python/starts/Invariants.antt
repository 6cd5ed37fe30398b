use Rattle.std.proofs.Common.{◌≡◌, ◌++◌, drop}
use Rattle.ul_tree.specs.Pieces.{changes_of, meets_at, starts_of}
use Rattle.ul_tree.proofs.python.starts.Given as goal

abbrev pub invariant-loop-cut : goal.invariant-loop-cut
invariant-loop-cut l = l.starts.items ++ changes_of (meets_at l.clause l.full) l.held (drop l.cut-index l.cut-items) ≡ starts_of l.clause l.full
