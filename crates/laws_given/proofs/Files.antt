-- What a project file says has names and versions.
use Rattle.std.proofs.Common.{◌≡◌, ℕ, List, Option, Ok, subst}
use Rattle.std.specs.Prelude.{codes}
use Rattle.toml.specs.Data.{Data, Members, get_member}
use Rattle.ul_base.specs.Names.{IsNormalName, name_of}
use Rattle.ul_base.proofs.ForCallers.{name_reads_itself}
use Rattle.ul_version.specs.Fields.{Fields, IsVersion}
use Rattle.ul_version.specs.Reading.{version_of}
use Rattle.ul_version.proofs.ForCallers.{versions}
use Rattle.ul_project.specs.Groups.{GroupFields}
use Rattle.ul_project.specs.Head.{HeadFields, dynamic_at, head_in, name_at, python_at, version_at}
use Rattle.ul_project.specs.Results.{or_fault}
use Rattle.ul_project.specs.Shapes.{at_key, shape, text_at, text_or}
use Rattle.ul_project.specs.declared.group.GroupEntry.{GroupEntry}
use Rattle.ul_project.specs.declared.group.GroupEntry.TheVariants.{Needs, Include}
use Rattle.ul_project.specs.declared.path.ProjectKey.TheVariants as key
use Rattle.laws_given.specs.Texts.{FilesAreTexts, IsNamedRequirement, IsTextGroup, IsTextGroupEntry, RequirementsAreNamed}
use Rattle.laws_given.proofs.FileParts.{file_from}
use Rattle.laws_given.proofs.FileRequirements.{IsEntryWith, IsGroupWith, IsOfExtras, file_has}
use Rattle.laws_given.proofs.Lists.{all_as}
use Rattle.laws_given.proofs.Readings.{same_ok, was_there, went_on}

-- ---- groups

text_entry : (x : GroupEntry) → IsEntryWith IsNamedRequirement x → IsTextGroupEntry x
text_entry (Needs q) h = h
text_entry (Include name) h = tt

text_group : (g : GroupFields) → IsGroupWith IsNamedRequirement g → IsTextGroup g
text_group g h =
    let entries = all_as (IsEntryWith IsNamedRequirement) IsTextGroupEntry text_entry g.entries h.entries in
    record { name = h.name; entries = entries }

of_text_entry : (x : GroupEntry) → IsTextGroupEntry x → IsEntryWith IsNamedRequirement x
of_text_entry (Needs q) h = h
of_text_entry (Include name) h = tt

-- a group with names has requirements that name names
pub of_text_group : (g : GroupFields) → IsTextGroup g → IsGroupWith IsNamedRequirement g
of_text_group g h =
    let entries = all_as IsTextGroupEntry (IsEntryWith IsNamedRequirement) of_text_entry g.entries h.entries in
    record { name = h.name; entries = entries }

-- a requirement of an extra names names
pub extra_named : IsOfExtras IsNamedRequirement
extra_named name q named h = record { name = h.name; extras = h.extras }

-- ---- the whole file

name_text : (value : Option Data) (name : List ℕ) → name_at value ≡ Ok name → IsNormalName name
unfolding name_at
name_text value name e =
    let text = went_on (text_at (at_key key.Name) value) (λ t. or_fault (shape (at_key key.Name)) (name_of t)) name e in
    name_reads_itself text.0 name (was_there (shape (at_key key.Name)) (name_of text.0) name text.2)

version_text : (value : Option Data) (v : Fields) → version_at value ≡ Ok v → IsVersion v
unfolding version_at
version_text value v e =
    let at = at_key key.Version in
    let text = went_on (text_or (codes "0") at value) (λ t. or_fault (shape at) (version_of t)) v e in
    versions text.0 v (was_there (shape (at_key key.Version)) (version_of text.0) v text.2)

head_text : (project : Members) (h : HeadFields) → head_in project ≡ Ok h → IsNormalName h.name × IsVersion h.version
unfolding head_in
head_text project h e =
    let name = went_on (name_at (get_member (codes "name") project)) _ h e in
    let version = went_on (version_at (get_member (codes "version") project)) _ h name.2 in
    let dynamic = went_on (dynamic_at (get_member (codes "dynamic") project)) _ h version.2 in
    let python = went_on (python_at (get_member (codes "requires-python") project)) _ h dynamic.2 in
    let same : record { name = name.0; version = version.0; python = python.0 } ≡ h = same_ok _ h python.2 in
    subst (λ (x : HeadFields). IsNormalName x.name × IsVersion x.version) same (
      name_text (get_member (codes "name") project) name.0 name.1,
      version_text (get_member (codes "version") project) version.0 version.1,
    )

pub files_are_texts : RequirementsAreNamed → FilesAreTexts
files_are_texts law bytes f e =
    let from = file_from bytes f e in
    let start = head_text from.project f.head from.head in
    let has = file_has IsNamedRequirement law extra_named bytes f e in
    record {
      name = start.0;
      version = start.1;
      requirements = has.requirements;
      extras = has.extras;
      groups = all_as (IsGroupWith IsNamedRequirement) IsTextGroup text_group f.groups has.groups;
    }
