use Rattle.std.proofs.Common.{◌≡◌, ◌++◌, map}
use Rattle.std.specs.Vec.Iter.{into_iter_items}
use Rattle.ul_placing.specs.Facts.{needs_ranked}
use Rattle.ul_placing.specs.Runs.{rows_of}
use Rattle.ul_placing.proofs.facts.ranked_rows.Given as goal

abbrev pub invariant-loop-run : goal.invariant-loop-run
invariant-loop-run l = l.rows.items ++ map (needs_ranked l.ranks) (rows_of (into_iter_items l.run-iterator)) ≡ map (needs_ranked l.ranks) (rows_of l.fn.runs.items)
