-- A package among packages in order.
use Rattle.std.specs.Prelude.{◌≡◌, ℕ, List, Option, Some, None, slice_get}
use Rattle.std.specs.declared.cmp.Ordering.TheVariants.{Equal}
use Rattle.ul_version.specs.Fields.{IsVersion}
use Rattle.ul_lines.specs.Reader.{Each}
use Rattle.ul_lock.specs.declared.parts.Locked.{Locked}
use Rattle.ul_lock.specs.Orders.{package_cmp, block_less}
use Rattle.ul_lock.specs.Increasing.{Rising}

-- the version is one
abbrev pub HasVersion : Locked → Type 0
HasVersion b = IsVersion b.version

-- packages by name and version, each once
pub record AreSorted (bs : List Locked) : Type 0 where
  pub rise : Rising block_less bs
  pub versions : Each HasVersion bs

-- at the place stands a package that is level with the key
abbrev pub StandsAt : List Locked → Locked → ℕ → Type 0
StandsAt bs key k = (b : Locked) × (slice_get bs k ≡ Some b) × (package_cmp b key ≡ Equal)

-- the place, and none where there is none
abbrev pub IsFound : List Locked → Locked → Option ℕ → Type 0
IsFound bs key None = (k : ℕ) → StandsAt bs key k → ⊥
IsFound bs key (Some k) = StandsAt bs key k
