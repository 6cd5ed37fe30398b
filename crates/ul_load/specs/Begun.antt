-- Catalogs that begin with a package.
use Rattle.std.specs.Prelude.{◌≡◌, ◌∷◌}
use Rattle.ul_requirement.specs.Fields.{PackageFields}
use Rattle.ul_index.specs.Catalogs.{Packages}

-- this package stands first
pub record BeginsWith (p : PackageFields) (c : Packages) : Type 0 where
  pub others : Packages
  pub is : c ≡ p ∷ others

-- where a package stands first in the one, it does in the other
abbrev pub KeepsFirst : Packages → Packages → Type 0
KeepsFirst c d = (p : PackageFields) → BeginsWith p c → BeginsWith p d
