use Rattle.std.specs.Prelude.{IfSome}
use Rattle.ul_conflict.specs.Held.{AreHeldPlaces}
use Rattle.ul_conflict.proofs.held.shortest.Given as goal

abbrev pub invariant-loop-term : goal.invariant-loop-term
invariant-loop-term l = IfSome l.best (λ places. AreHeldPlaces l.trail places.now.items)
