use Rattle.std.proofs.Common.{◌≡◌, ℕ, List}
use Rattle.std.specs.HashMap.{get}
use Rattle.std.specs.List.{slice_get}
use Rattle.std.specs.Str.{bytes_eq}
use Rattle.ul_index.specs.Results.{option_bind}
use Rattle.ul_index.proofs.NamePlaces.{found_from}
use Rattle.ul_index.proofs.catalog.places_of.Given as goal

abbrev pub invariant-loop-place : goal.invariant-loop-place
invariant-loop-place l =
    (name : List ℕ) → option_bind (get bytes_eq l.places name) (slice_get l.packages) ≡ found_from l.packages l.place name
