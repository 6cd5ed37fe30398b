-- The index of a catalog: where the package of each name stands, and where the project's requirements on it do.
use Rattle.std.specs.Prelude.{◌≡◌, ℕ, List, find, bytes_eq}
use Rattle.std.specs.HashMap.{HashMap, get}
use Rattle.std.specs.List.{slice_get}
use Rattle.ul_index.specs.Catalogs.{IsCatalog, Packages, directs}
use Rattle.ul_index.specs.DirectPlaces.{IsDirectIndex}
use Rattle.ul_index.specs.Results.{option_bind}
use Rattle.ul_index.specs.declared.direct_index.DirectIndex.{DirectIndex}

-- names with places
abbrev pub NamePlaces : Type 0 → Type 0
NamePlaces S = HashMap (List ℕ) ℕ S

-- at the place of each name stands the first package of that name, and the others have no place
abbrev pub AreNamePlaces : {S : Type 0} → Packages → NamePlaces S → Type 0
AreNamePlaces packages places =
    (name : List ℕ) → option_bind (get bytes_eq places name) (slice_get packages) ≡ find (λ p. bytes_eq p.name name) packages

-- a catalog, and where its names and the project's requirements stand
pub record IsIndexed {S : Type 0} (packages : Packages) (places : NamePlaces S) (asked : DirectIndex) : Type 0 where
  pub catalog : IsCatalog packages
  pub index : AreNamePlaces packages places
  pub project : IsDirectIndex (directs packages) asked
