use Rattle.std.proofs.Common.{◌≡◌, ◌++◌, drop}
use Rattle.ul_placing.specs.Ranks.{places_from}
use Rattle.ul_placing.proofs.ranks.places_of.Given as goal

abbrev pub invariant-loop-place : goal.invariant-loop-place
invariant-loop-place l = l.places.items ++ places_from l.place (drop l.place l.aims) ≡ places_from 0 l.aims
