use Rattle.ul_region.specs.Numbers.{ArePlacesOfFirst, fields_in}
use Rattle.ul_region.proofs.numbers.first_places.Given as goal

abbrev pub invariant-loop-place : goal.invariant-loop-place
invariant-loop-place l = ArePlacesOfFirst (fields_in l.requirements) l.place l.places
