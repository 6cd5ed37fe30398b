use Rattle.std.proofs.Common.{take}
use Rattle.std.specs.List.{AllZip}
use Rattle.ul_prepared.specs.Places.{IsFoundAt}
use Rattle.ul_prepared.proofs.planning.places_of.Given as goal

abbrev pub invariant-loop-start : goal.invariant-loop-start
invariant-loop-start l = AllZip (IsFoundAt l.index) (take l.start-index l.starts) l.places.items
