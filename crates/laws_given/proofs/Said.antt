-- A project that bytes say is one.
use Rattle.std.proofs.Common.{◌≡◌, ℕ, List, [], ◌∷◌, ◌++◌, map, length, false, true≢false, Option, Some, None, Ok, refl, ap, sym, subst, ◌∙◌}
use Rattle.std.specs.List.{AllByRecursion}
use Rattle.std.specs.List.Sorted.{IsStrictlySortedBy}
use Rattle.ul_base.specs.Names.{name_cmp}
use Rattle.ul_comparison.specs.Formulas.{AreFormulas, Formula, IsFormula, formulas_of}
use Rattle.ul_marker.specs.Reading.{marker_of}
use Rattle.ul_marker.specs.ReadingLaws.{ReadIsFormula}
use Rattle.ul_marker.specs.declared.words.Dialect.TheVariants.{Document}
use Rattle.ul_nodes.specs.Plain.{Plain, truth}
use Rattle.ul_tree.specs.Regions.{IsRegionTree}
use Rattle.ul_tree.specs.Values.{tree_holds}
use Rattle.ul_project.specs.Fields.{IsProject, ProjectFields}
use Rattle.ul_project.specs.Headline.{IsSaid}
use Rattle.ul_project.specs.ProjectFile.{FileFields, file_of}
use Rattle.ul_groups.specs.Expanded.{ExtraLists, all_lists, first_requirements, lists_of, own_size, with_extras, with_lists}
use Rattle.ul_inputs.specs.Resolutions.{HasUsable}
use Rattle.laws_given.specs.Given.{SaidIsProject}
use Rattle.laws_given.proofs.Environments.{file_environments}
use Rattle.laws_given.proofs.ExpandedProjects.{expanded_by, project_with}
use Rattle.laws_given.proofs.ReadMarkers.{AreMarkers}
use Rattle.laws_given.proofs.Sorted.{sorted_by_name}

-- ---- environments

-- each marker that a document's text spells is a formula
pub document_formula : ReadIsFormula → AreMarkers IsFormula
unfolding marker_of
document_formula reads text f e = reads Document text f e

-- formulas as a list of the grammar
pub as_formulas : (fs : List Formula) → AllByRecursion IsFormula fs → AreFormulas (formulas_of fs)
as_formulas [] h = tt
as_formulas (f ∷ fs) h = (h.0, as_formulas fs h.1)

-- the environments of a project file are formulas
pub file_formulas : ReadIsFormula → (bytes : List ℕ) (f : FileFields) → file_of bytes ≡ Ok f
    → AreFormulas (formulas_of f.settings.environments)
file_formulas reads bytes f e =
    as_formulas f.settings.environments (file_environments IsFormula (document_formula reads) bytes f e)

-- ---- what bytes say

said_environments : ReadIsFormula → (bytes : List ℕ) (p : ProjectFields) → IsSaid bytes p
    → AreFormulas (formulas_of p.environments)
said_environments reads bytes p said =
    subst (λ (x : ProjectFields). AreFormulas (formulas_of x.environments)) (sym said.project.fields)
    (file_formulas reads bytes said.file said.said)

said_region : (bytes : List ℕ) (p : ProjectFields) → IsSaid bytes p → IsRegionTree p.region
said_region bytes p said = let region = said.project.region in record {
  reduced = region.reduced;
  truth = λ w x is. region.truth w x is ∙ sym (region.truth w [] is);
}

said_some : (bytes : List ℕ) (p : ProjectFields) → IsSaid bytes p → p.region ≡ truth false → ⊥
said_some bytes p said e =
    let (w, is, held) = said.project.somewhere in
    true≢false (sym (said.project.region.truth w [] is ∙ held) ∙ ap (λ (t : Plain). tree_holds t w []) e)

said_usable : (bytes : List ℕ) (p : ProjectFields) → IsSaid bytes p → HasUsable p.package
said_usable bytes p said = let is = said.project.fields in record {
  release =
      record {
        version = said.file.head.version;
        python = [];
        requirements = said.file.requirements;
        yanked = false;
        files = [];
        source = None;
      };
  one = ap (λ (q : ProjectFields). q.package.releases) is;
  usable = refl;
}

-- ---- groups as extras

with_usable : (p : ProjectFields) (lists : ExtraLists) → HasUsable p.package → HasUsable (with_extras p lists).package
with_usable p lists had = record {
  release = with_lists (own_size p.sizes (first_requirements p.package.releases)) lists had.release;
  one = ap (map (with_lists (own_size p.sizes (first_requirements p.package.releases)) lists)) had.one;
  usable = had.usable;
}

no_groups : IsStrictlySortedBy name_cmp []
unfolding IsStrictlySortedBy
no_groups = tt

with_is_project : ReadIsFormula → (bytes : List ℕ) (p : ProjectFields) (lists : ExtraLists) → IsSaid bytes p
    → (let q = project_with p lists in IsProject q × HasUsable q.package)
with_is_project reads bytes p lists said =
    let all = all_lists p.extras p.sizes p.package lists in
    let usable = with_usable p all (said_usable bytes p said) in (
      record {
        release = ap length usable.one;
        extras = sorted_by_name (lists_of p.extras p.sizes (first_requirements p.package.releases) ++ lists);
        environments = said_environments reads bytes p said;
        region = said_region bytes p said;
        some = said_some bytes p said;
        groups = no_groups;
      },
      usable,
    )

pub said_is_project : ReadIsFormula → SaidIsProject
said_is_project reads bytes p q said went =
    let by = expanded_by p q went in
    subst (λ (x : ProjectFields). IsProject x × HasUsable x.package) {x = project_with p by.lists} by.is
    (with_is_project reads bytes p by.lists said)
