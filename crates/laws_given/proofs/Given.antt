-- What files give is a resolution.
use Rattle.std.proofs.Common.{ℕ, List, map, refl, ap, subst}
use Rattle.ul_files.specs.Files.{FileMap}
use Rattle.ul_requirement.specs.Fields.{ReleaseFields, RequirementFields}
use Rattle.ul_index.specs.Catalogs.{Packages}
use Rattle.ul_load.specs.Begun.{BeginsWith}
use Rattle.ul_project.specs.Fields.{IsProject, ProjectFields}
use Rattle.ul_groups.specs.Adjusted.{adjusted_release, all_on, catalog_for, package_for}
use Rattle.ul_groups.specs.Sourced.{source_constraints}
use Rattle.ul_inputs.specs.Catalogs.{BeginsAdjusted, beginning}
use Rattle.ul_inputs.specs.Resolutions.{IsResolution, ResolutionFields}
use Rattle.laws_given.specs.Given.{BeginsWithProject, GivenBegins, GivenIsResolution, LoadedBegins, SaidIsProject}
use Rattle.laws_given.proofs.Inputs.{IsResolutionFrom, resolution_from}

adjusted_begins : (p : ProjectFields) (c : Packages) → BeginsWith p.package c
    → BeginsAdjusted p (catalog_for p c)
adjusted_begins p c begun = record {
  sources = source_constraints p c;
  others = map (package_for p (source_constraints p c)) begun.others;
  is = ap (map (package_for p (source_constraints p c))) begun.is;
}

-- the project's one release, adjusted
abbrev own_release : ProjectFields → List RequirementFields → ReleaseFields → ReleaseFields
own_release p sources r = adjusted_release (all_on p.constraints) (all_on p.overrides) (all_on sources) r

is_resolution : (r : ResolutionFields) → IsProject r.project → BeginsWithProject r → IsResolution r
is_resolution r project begun = let sources = begun.begins.sources in record {
  first = package_for r.project sources r.project.package;
  others = begun.begins.others;
  begins = begun.begins.is;
  named = refl;
  release = own_release r.project sources begun.usable.release;
  one = ap (map (own_release r.project sources)) begun.usable.one;
  usable = begun.usable.usable;
  project = project;
}

given : LoadedBegins → SaidIsProject → (m : FileMap) (folder : List ℕ) (r : ResolutionFields)
    → IsResolutionFrom m folder r → IsProject r.project × BeginsWithProject r
given loads says m folder r from =
    let project = says from.project.bytes from.project.read r.project from.project.said from.project.expanded in
    let begun = loads m folder (beginning r.project) from.catalog.loaded from.catalog.loads in
    let adjusted = catalog_for r.project from.catalog.loaded in
    let begins : BeginsAdjusted r.project r.catalog =
    subst (BeginsAdjusted r.project) {x = adjusted} from.catalog.is
    (adjusted_begins r.project from.catalog.loaded begun) in
    (project.0, record { begins = begins; usable = project.1 })

pub given_is_resolution : LoadedBegins → SaidIsProject → GivenIsResolution
given_is_resolution loads says project folder old m r gave =
    let all = given loads says m folder r (resolution_from project folder old m r gave) in is_resolution r all.0 all.1

pub given_begins : LoadedBegins → SaidIsProject → GivenBegins
given_begins loads says project folder old m r gave =
    (given loads says m folder r (resolution_from project folder old m r gave)).1
