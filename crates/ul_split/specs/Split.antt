-- By which truth a region is split. `ds` are the decided nodes with their releases, in the order of decision.
use Rattle.std.specs.Prelude.{◌≡◌, ◌⊎◌, ℕ, List, [], ◌∷◌, Contains, Bool, not, Some}
use Rattle.ul_base.specs.declared.node.Node.{Node}
use Rattle.ul_base.specs.Kept.{IsFirst}
use Rattle.ul_comparison.specs.Worlds.{WorldFields}
use Rattle.ul_requirement.specs.Fields.{RequirementFields, ReleaseFields}
use Rattle.ul_requirement.specs.Truth.{applies_at}
use Rattle.ul_index.specs.Regions.{Region, Somewhere}
use Rattle.ul_index.specs.Catalogs.{Packages, release_of, is_release_fit}
use Rattle.ul_index.specs.Applied.{IsSplitGroup}
use Rattle.ul_index.specs.Serves.{Selection}
use Rattle.ul_region.specs.Groups.{IsParting}

-- a decided node with its release
pub record Decided : Type 0 where
  pub node : Node
  pub release : ReleaseFields

-- the releases of decisions
abbrev pub AreDecided : Packages → Selection → List Decided → Type 0
AreDecided c [] [] = Unit {0}
AreDecided c [] (d ∷ ds) = ⊥
AreDecided c (p ∷ ps) [] = ⊥
AreDecided c (p ∷ ps) (d ∷ ds) = record { same : d.node ≡ p.0; found : release_of c p.0.name p.1 ≡ Some d.release; rest : AreDecided c ps ds }

-- the release isn't fit at some world of the region
abbrev pub IsUnfit : Region → Decided → Type 0
IsUnfit R d = Somewhere R (λ w. not (is_release_fit d.release w))

-- the release has a split group at the node
abbrev pub HasSplit : Region → Decided → Type 0
HasSplit R d = (name : List ℕ) × IsSplitGroup d.release.requirements R d.node name

-- the truth is where the first release that isn't fit throughout is fit
pub record ByFit (R : Region) (ds : List Decided) (truth : WorldFields → Bool) : Type 0 where
  pub decided : Decided
  pub first : IsFirst (IsUnfit R) ds decided
  pub is : truth ≡ is_release_fit decided.release

-- each release is fit throughout
abbrev pub AllFit : Region → List Decided → Type 0
AllFit R ds = (d : Decided) → Contains ds d → IsUnfit R d → ⊥

-- each release is fit throughout, and the truth is that of the first split group of the first node that has one
pub record ByGroup (R : Region) (ds : List Decided) (truth : WorldFields → Bool) : Type 0 where
  pub fit : AllFit R ds
  pub decided : Decided
  pub first : IsFirst (HasSplit R) ds decided
  pub requirement : RequirementFields
  pub parting : IsParting decided.release.requirements R decided.node requirement
  pub is : truth ≡ applies_at requirement decided.node

-- the truth by which the region is split
abbrev pub SplitsBy : Region → List Decided → (WorldFields → Bool) → Type 0
SplitsBy R ds truth = ByFit R ds truth ⊎ ByGroup R ds truth

-- nothing splits the region: each release is fit throughout, and no node has a split group
pub record IsUnsplit (R : Region) (ds : List Decided) : Type 0 where
  pub fit : AllFit R ds
  pub groups : (d : Decided) → Contains ds d → HasSplit R d → ⊥
