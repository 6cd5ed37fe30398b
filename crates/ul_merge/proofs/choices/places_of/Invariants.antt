use Rattle.std.proofs.Common.{◌≡◌, ℕ}
use Rattle.std.specs.Prelude.{nat_eq}
use Rattle.std.specs.HashMap.{get}
use Rattle.std.specs.List.{slice_get}
use Rattle.ul_index.specs.Results.{option_bind}
use Rattle.ul_merge.proofs.Places.{first_from}
use Rattle.ul_merge.proofs.choices.places_of.Given as goal

abbrev pub invariant-loop-place : goal.invariant-loop-place
invariant-loop-place l = (u : ℕ) → option_bind (get nat_eq l.places u) (slice_get l.picks) ≡ first_from l.picks l.place u
