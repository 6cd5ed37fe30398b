use Rattle.ul_prepared.proofs.PlaceFacts.{ArePlacesTo}
use Rattle.ul_prepared.proofs.gathering.index_of.Given as goal

abbrev pub invariant-loop-place : goal.invariant-loop-place
invariant-loop-place l = ArePlacesTo l.nodes l.place l.index
