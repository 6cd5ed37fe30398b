use Rattle.ul_region.specs.Numbers.{fields_in}
use Rattle.ul_region.proofs.KeptPlaces.{IsWalk}
use Rattle.ul_region.proofs.by_extra.kept_among.Given as goal

abbrev pub invariant-loop-place : goal.invariant-loop-place
invariant-loop-place l = IsWalk l.requirements l.node l.places (fields_in l.kept.items) l.place-index l.from
