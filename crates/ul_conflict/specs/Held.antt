-- Places of held incompatibilities.
use Rattle.std.specs.Prelude.{◌≡◌, ℕ, List, Some, ◌<◌, slice_get, length}
use Rattle.ul_trail.specs.Track.{Track}

-- each place of the list is that of a held incompatibility, and of the step that says it
abbrev pub AreHeldPlaces : Track → List ℕ → Type 0
AreHeldPlaces t places =
    (i place : ℕ) → slice_get places i ≡ Some place → (place < length t.terms) × (place < length t.steps)
