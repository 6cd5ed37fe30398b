-- What files give has names and versions.
use Rattle.std.proofs.Common.{ℕ, List, [], sym, subst}
use Rattle.std.specs.List.{AllByRecursion}
use Rattle.std.specs.List.Sorted.{IsStrictlySortedBy}
use Rattle.ul_files.specs.Files.{FileMap}
use Rattle.ul_base.specs.Names.{IsNormalName}
use Rattle.ul_requirement.specs.Fields.{FilesRise}
use Rattle.ul_index.specs.Catalogs.{Packages}
use Rattle.ul_project.specs.Fields.{ProjectFields}
use Rattle.ul_project.specs.Headline.{IsSaid}
use Rattle.ul_groups.specs.Adjusted.{catalog_for}
use Rattle.ul_inputs.specs.Catalogs.{beginning}
use Rattle.laws_given.specs.Texts.{AdjustedAreTexts, CatalogsAreTexts, ExpandedAreTexts, FilesAreTexts, IsTextPackage, IsTextProject, TextsAreHad}
use Rattle.laws_given.specs.Given.{GivenHasTexts}
use Rattle.laws_given.proofs.Inputs.{IsCatalogFrom, IsProjectFrom, resolution_from}
use Rattle.laws_given.proofs.Lists.{all_at}

-- what texts of a resolution rest on
pub record TextLaws : Type 0 where
  pub files : FilesAreTexts
  pub expanded : ExpandedAreTexts
  pub catalogs : CatalogsAreTexts
  pub adjusted : AdjustedAreTexts
  pub had : TextsAreHad

no_files : FilesRise []
unfolding IsStrictlySortedBy
no_files = tt

said_text : TextLaws → (bytes : List ℕ) (p : ProjectFields) → IsSaid bytes p → IsTextProject p
said_text laws bytes p said =
    let file = laws.files bytes said.file said.said in
    subst IsTextProject (sym said.project.fields) (record {
      «package» = record {
        name = file.name;
        releases = (
          record {
            version = file.version;
            requirements = file.requirements;
            files = tt;
            files_rise = no_files;
          },
          tt,
        );
      };
      extras = file.extras;
      groups = file.groups;
    })

project_text : TextLaws → (p : ProjectFields) → IsProjectFrom p → IsTextProject p
project_text laws p from = laws.expanded from.read p (said_text laws from.bytes from.read from.said) from.expanded

catalog_text : TextLaws → (m : FileMap) (folder : List ℕ) (p : ProjectFields) (c : Packages) → IsTextProject p
    → IsCatalogFrom m folder p c → AllByRecursion IsTextPackage c
catalog_text laws m folder p c text from =
    let loaded = laws.catalogs m folder (beginning p) from.loaded text.package from.loads in
    let adjusted = catalog_for p from.loaded in
    subst (λ (x : Packages). AllByRecursion IsTextPackage x) {x = adjusted} from.is
    (laws.adjusted p from.loaded loaded)

pub given_has_texts : TextLaws → GivenHasTexts
given_has_texts laws project folder old m r gave =
    let from = resolution_from project folder old m r gave in
    let text = project_text laws r.project from.project in
    let had = laws.had r.catalog (catalog_text laws m folder r.project r.catalog text from.catalog) in
    record {
      project = text.package.name;
      extras = λ x at. all_at IsNormalName r.project.extras x text.extras at;
      versions = had.versions;
      nodes = had.nodes;
      files = had.files;
    }
