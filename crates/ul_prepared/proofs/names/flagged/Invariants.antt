use Rattle.std.proofs.Common.{◌≡◌, filter, take}
use Rattle.ul_prepared.specs.Orders.{flag_at}
use Rattle.ul_prepared.proofs.names.flagged.Given as goal

abbrev pub invariant-loop-place : goal.invariant-loop-place
invariant-loop-place l = l.found.items ≡ filter (flag_at l.flags) (take l.place-index l.places)
