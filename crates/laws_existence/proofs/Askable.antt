-- What files give can be asked of.
use Rattle.std.proofs.Common.{◌≡◌, ℕ, List, [], ◌∷◌, Option, Ok, ap, sym, subst}
use Rattle.std.specs.List.{AllByRecursion}
use Rattle.std.proofs.lemmas.List.Elements.{All-nil}
use Rattle.ul_files.specs.Files.{FileMap}
use Rattle.ul_comparison.specs.Formulas.{IsFormula}
use Rattle.ul_marker.specs.ReadingLaws.{ReadIsFormula}
use Rattle.ul_requirement.specs.Fields.{IsOtherVersion, IsPackage, IsRequirement, ReleaseFields, VersionsDiffer}
use Rattle.ul_index.specs.Catalogs.{Packages}
use Rattle.ul_project.specs.Fields.{ProjectFields}
use Rattle.ul_groups.specs.Adjusted.{catalog_for}
use Rattle.ul_forks.specs.Outcome.{starts_of}
use Rattle.ul_inputs.specs.Catalogs.{beginning}
use Rattle.ul_inputs.specs.Resolutions.{HasUsable, IsResolution, ResolutionFields}
use Rattle.ul_commands.specs.Questions.{question_of}
use Rattle.laws_given.specs.Given.{GivenBegins, GivenIsResolution}
use Rattle.laws_given.proofs.ForCallers.{HasAll, HasEach, IsCatalogFrom, given_all, listed_has, resolution_from}
use Rattle.laws_problems.specs.Exists.{IsAskedOf}
use Rattle.laws_existence.specs.Inputs.{GivenIsAskable}
use Rattle.laws_existence.proofs.Adjusted.{adjusted_right}
use Rattle.laws_existence.proofs.Loaded.{IsRightCatalog, loaded_right}
use Rattle.laws_existence.proofs.Requirements.{requirements_are}

-- ---- the catalog

one_differs : (rs : List ReleaseFields) (r : ReleaseFields) → rs ≡ r ∷ [] → VersionsDiffer rs
one_differs rs r is = subst VersionsDiffer (sym is) (All-nil (IsOtherVersion r), tt)

catalog_right : (m : FileMap) (folder : List ℕ) (p : ProjectFields) (c : Packages)
    → HasUsable p.package → IsCatalogFrom m folder p c → IsRightCatalog c
catalog_right m folder p c had from =
    let project : IsPackage p.package = record { differ = one_differs p.package.releases had.release had.one } in
    subst IsRightCatalog {x = catalog_for p from.loaded} from.is
    (adjusted_right p from.loaded (loaded_right m folder (beginning p) from.loaded project from.loads))

-- ---- what is asked of

-- a resolution with a right catalog, whose requirements are such as a text can spell, can be asked of
asked_of : (r : ResolutionFields) → IsResolution r → IsRightCatalog r.catalog
    → AllByRecursion (HasAll IsRequirement) r.catalog → IsAskedOf r.catalog (starts_of (question_of r))
asked_of r is right spelled = record {
  differ = right.differ;
  packages = right.packages;
  requirements =
      listed_has (HasAll IsRequirement) (HasEach IsRequirement) (λ p h. h) r.catalog spelled IsRequirement (λ s h. h);
  project = record {
    project = is.first;
    others = is.others;
    first = is.begins;
    release = is.release;
    one = is.one;
    kept = is.usable;
    extras = r.project.extras;
    increasing = is.project.extras;
    are = ap (λ n. starts_of (record (question_of r) { name = n })) (sym is.named);
  };
}

pub given_is_askable : ReadIsFormula → GivenIsResolution → GivenBegins → GivenIsAskable
given_is_askable reads resolution begins project folder old m r gave =
    let from = resolution_from project folder old m r gave in
    let usable = (begins project folder old m r gave).usable in
    asked_of r (resolution project folder old m r gave) (catalog_right m folder r.project r.catalog usable from.catalog)
    (given_all IsRequirement IsFormula (requirements_are reads) project folder old m r gave)
