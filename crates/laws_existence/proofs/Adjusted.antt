-- The catalog for a project has packages of different names, each with different versions, where the catalog had.
use Rattle.std.proofs.Common.{List, [], ◌∷◌, map, refl}
use Rattle.std.specs.Prelude.{All}
use Rattle.std.specs.List.{AllByRecursion}
use Rattle.std.proofs.lemmas.List.Elements.{All-cons, All-nil, All-head, All-tail}
use Rattle.ul_requirement.specs.Fields.{IsOtherVersion, IsPackage, ReleaseFields, RequirementFields, VersionsDiffer}
use Rattle.ul_index.specs.Catalogs.{Packages}
use Rattle.ul_index.proofs.ForCallers.{names_still}
use Rattle.ul_project.specs.Fields.{ProjectFields}
use Rattle.ul_groups.specs.Adjusted.{ByName, adjusted_release, all_on, catalog_for, package_for}
use Rattle.ul_groups.specs.Sourced.{source_constraints}
use Rattle.laws_existence.proofs.Loaded.{IsRightCatalog}

module _ (constraints overrides sources : ByName) where
  other_versions : (r : ReleaseFields) (rs : List ReleaseFields) → All (IsOtherVersion r) rs
      → All (IsOtherVersion (adjusted_release constraints overrides sources r))
      (map (adjusted_release constraints overrides sources) rs)
  other_versions r [] h = All-nil (IsOtherVersion (adjusted_release constraints overrides sources r))
  other_versions r (s ∷ rs) h =
      All-cons (IsOtherVersion (adjusted_release constraints overrides sources r)) (adjusted_release constraints overrides sources s)
      (map (adjusted_release constraints overrides sources) rs) (All-head (IsOtherVersion r) s rs h)
      (other_versions r rs (All-tail (IsOtherVersion r) s rs h))

  versions_differ : (rs : List ReleaseFields) → VersionsDiffer rs
      → VersionsDiffer (map (adjusted_release constraints overrides sources) rs)
  versions_differ [] h = tt
  versions_differ (r ∷ rs) h = (other_versions r rs h.0, versions_differ rs h.1)

packages : (p : ProjectFields) (sources : List RequirementFields) (c : Packages) → AllByRecursion IsPackage c
    → AllByRecursion IsPackage (map (package_for p sources) c)
packages p sources [] h = tt
packages p sources (found ∷ rest) h = (
  record {
    differ = versions_differ (all_on p.constraints) (all_on p.overrides) (all_on sources) found.releases h.0.differ;
  },
  packages p sources rest h.1,
)

-- the catalog for a project is such
pub adjusted_right : (p : ProjectFields) (c : Packages) → IsRightCatalog c → IsRightCatalog (catalog_for p c)
adjusted_right p c h = let sources = source_constraints p c in record {
  differ = names_still (package_for p sources) (λ found. refl) c h.differ;
  packages = packages p sources c h.packages;
}
