-- What a catalog's requirements ask is asked.
use Rattle.std.proofs.Common.{◌≡◌, ℕ, List, flat_map, Option, Some, None, refl}
use Rattle.std.specs.Prelude.{Contains, bytes_eq, find}
use Rattle.std.specs.Ordering.{is_eq}
use Rattle.std.proofs.lemmas.List.Elements.{Contains-append_right}
use Rattle.ul_base.proofs.ForCallers.{contains_flat, found_in, none_in}
use Rattle.ul_version.specs.Fields.{Fields}
use Rattle.ul_version.specs.Order.{version_cmp}
use Rattle.ul_comparison.specs.Atoms.{AtomFields}
use Rattle.ul_marker.specs.Parts.{atoms_of}
use Rattle.ul_requirement.specs.Fields.{PackageFields, ReleaseFields, RequirementFields}
use Rattle.ul_requirement.specs.Truth.{atoms_of_requirement}
use Rattle.ul_index.specs.Catalogs.{Packages, release_of, releases_in, releases_of, requirements, requirements_in}
use Rattle.ul_load.specs.Loading.{atoms_in, requirements_of}
use Rattle.ul_project.specs.Fields.{ProjectFields}
use Rattle.laws_comparisons.specs.Comparisons.{asked_atoms}
use Rattle.laws_comparisons.proofs.Asked.{AreAsked, asks_itself}

-- the requirements that a catalog lists ask these comparisons alone
abbrev pub CatalogAsks : List AtomFields → Packages → Type 0
CatalogAsks asked c = (name : List ℕ) (v : Fields) (q : RequirementFields) → Contains (requirements c name v) q
    → AreAsked asked (atoms_of_requirement q)

-- a release of the requirement, of a package
record IsListed (c : Packages) (q : RequirementFields) : Type 0 where
  found : PackageFields
  in_catalog : Contains c found
  release : ReleaseFields
  of_package : Contains found.releases release
  listed : Contains release.requirements q

release_has : (o : Option ReleaseFields) (q : RequirementFields) → Contains (requirements_in o) q
    → (r : ReleaseFields) × (o ≡ Some r) × Contains r.requirements q
release_has None q m = absurd (none_in q m)
release_has (Some r) q m = (r, refl, m)

package_has : (o : Option PackageFields) (r : ReleaseFields) → Contains (releases_in o) r
    → (p : PackageFields) × (o ≡ Some p) × Contains p.releases r
package_has None r m = absurd (none_in r m)
package_has (Some p) r m = (p, refl, m)

is_listed : (c : Packages) (name : List ℕ) (v : Fields) (q : RequirementFields) → Contains (requirements c name v) q → IsListed c q
unfolding requirements release_of releases_of
is_listed c name v q m =
    let release = release_has (release_of c name v) q m in
    let stands = found_in (λ (r : ReleaseFields). is_eq (version_cmp r.version v)) (releases_of c name) release.0 release.1 in
    let found = package_has (find (λ (p : PackageFields). bytes_eq p.name name) c) release.0 stands in
    record {
      found = found.0;
      in_catalog = found_in (λ (p : PackageFields). bytes_eq p.name name) c found.0 found.1;
      release = release.0;
      of_package = found.2;
      listed = release.2;
    }

-- what a project and a catalog ask has what the catalog's requirements ask
pub catalog_asks : (p : ProjectFields) (c : Packages) → CatalogAsks (asked_atoms p c) c
catalog_asks p c name v q m =
    let at = is_listed c name v q m in
    let all = λ (found : PackageFields). atoms_in (requirements_of found.releases) in
    let of_release = λ (r : ReleaseFields). r.requirements in
    asks_itself (asked_atoms p c) (atoms_of_requirement q) (λ a h.
    Contains-append_right (flat_map atoms_of p.environments) (flat_map all c) a
    (contains_flat all c at.found a at.in_catalog
    (contains_flat atoms_of_requirement (requirements_of at.found.releases) q a
    (contains_flat of_release at.found.releases at.release q at.of_package at.listed) h)))
