use Rattle.ul_trail.proofs.Rooted.{AreEmpty}
use Rattle.ul_trail.proofs.rooting.empty_rows.Given as goal

abbrev pub invariant-loop : goal.invariant-loop
invariant-loop l = AreEmpty l.rows.items l.counter
