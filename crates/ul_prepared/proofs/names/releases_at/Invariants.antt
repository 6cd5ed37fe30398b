use Rattle.std.proofs.Common.{◌≡◌, Some, map, take}
use Rattle.std.specs.Prelude.{slice_get}
use Rattle.ul_prepared.proofs.names.releases_at.Given as goal

abbrev pub invariant-loop-place : goal.invariant-loop-place
invariant-loop-place l = map (λ r. Some r.now) l.found.items ≡ map (slice_get l.releases) (take l.place-index l.places)
