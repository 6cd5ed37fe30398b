-- What is true of each requirement that is read is true of each that a project file has: its own, those of its extras,
-- and those of its groups.
use Rattle.std.proofs.Common.{◌≡◌, ◌∙◌, ◌++◌, ℕ, List, [], ◌∷◌, map, Option, Some, Ok, inl, inr, ap, cond, refl, subst, Bool, true, false}
use Rattle.std.specs.List.{AllByRecursion}
use Rattle.toml.specs.Data.{Data, table, Members, get_member}
use Rattle.std.specs.BTreeMap.{is_at}
use Rattle.std.specs.Map.{lookup}
use Rattle.std.specs.Prelude.{codes}
use Rattle.ul_base.specs.Names.{IsNormalName, is_name, name_cmp, name_of, normal_form}
use Rattle.ul_requirement.specs.Fields.{RequirementFields}
use Rattle.ul_requirement.specs.Reading as grammar
use Rattle.ul_project.specs.Extras.{extra_list_at, extra_requirements, extras_at, of_extra}
use Rattle.ul_project.specs.DevDependencies.{dev, dev_allowed, dev_dependencies_at, dev_dependencies_in, entries_of, some_entries, with_dev}
use Rattle.ul_project.specs.GroupLists.{group_entries_at, group_entry_at, group_lists_at, group_of, included_group}
use Rattle.ul_project.specs.Groups.{GroupFields}
use Rattle.ul_project.specs.Lists.{Named, named_lists, names_of}
use Rattle.ul_project.specs.ProjectFile.{FileFields, file_of}
use Rattle.ul_project.specs.Requirements.{address_read, requirement_at, requirement_read, requirements_at}
use Rattle.ul_project.specs.Results.{each_from, or_fault}
use Rattle.ul_project.specs.Shapes.{at_key, items_at, optional_items_at, optional_table_at, requirement_fault, shape, text_at}
use Rattle.ul_project.specs.declared.group.GroupEntry.{GroupEntry}
use Rattle.ul_project.specs.declared.group.GroupEntry.TheVariants.{Needs, Include}
use Rattle.ul_project.specs.declared.path.Place.{Place}
use Rattle.ul_project.specs.declared.path.Place.TheVariants as place
use Rattle.ul_project.specs.declared.path.ProjectKey.TheVariants as key
use Rattle.ul_project.specs.declared.path.ProjectPath.{ProjectPath}
use Rattle.ul_project.specs.declared.path.ProjectPath.TheVariants.{Whole, Entry}
use Rattle.ul_project.specs.declared.profile.Profile.{Profile}
use Rattle.ul_project.specs.declared.profile.Profile.TheVariants.{Strict, Wide}
use Rattle.laws_given.proofs.FileParts.{file_from}
use Rattle.laws_given.proofs.Lists.{more}
use Rattle.laws_given.proofs.NamedLists.{IsNamedList, named_read, names_normal, put_named}
use Rattle.laws_given.proofs.ReadRequirements.{AreRead}
use Rattle.laws_given.proofs.Readings.{each_all, same_ok, was_there, went_on}

-- each of the requirements is such
abbrev pub AreAll : (RequirementFields → Type 0) → List RequirementFields → Type 0
AreAll P qs = AllByRecursion P qs

-- what an entry of a group needs is such
abbrev pub IsEntryWith : (RequirementFields → Type 0) → GroupEntry → Type 0
IsEntryWith P (Needs q) = P q
IsEntryWith P (Include name) = Unit {0}

-- a group with a name, whose entries are such
pub record IsGroupWith (P : RequirementFields → Type 0) (g : GroupFields) : Type 0 where
  pub name : IsNormalName g.name
  pub entries : AllByRecursion (IsEntryWith P) g.entries

-- a file whose requirements and groups are such, and whose extras are names
pub record IsFileWith (P : RequirementFields → Type 0) (f : FileFields) : Type 0 where
  pub requirements : AreAll P f.requirements
  pub extras : AllByRecursion IsNormalName f.extras
  pub groups : AllByRecursion (IsGroupWith P) f.groups

-- a requirement of an extra is such, where the requirement is
abbrev pub IsOfExtras : (RequirementFields → Type 0) → Type 0
IsOfExtras P = (name : List ℕ) (q : RequirementFields) → IsNormalName name → P q → P (of_extra name q)

-- requirements of an extra
pub as_extra : (P : RequirementFields → Type 0) → IsOfExtras P → (name : List ℕ) (qs : List RequirementFields)
    → IsNormalName name → AreAll P qs → AreAll P (map (of_extra name) qs)
as_extra P of name [] named h = tt
as_extra P of name (q ∷ qs) named h = (of name q named h.0, as_extra P of name qs named h.1)

-- `dev` is a name
dev_normal : IsNormalName dev
unfolding is_name normal_form name_of
dev_normal = refl

-- requirements are entries
needed : (P : RequirementFields → Type 0) (qs : List RequirementFields) → AreAll P qs
    → AllByRecursion (IsEntryWith P) (map Needs qs)
needed P [] h = tt
needed P (q ∷ qs) h = (h.0, needed P qs h.1)

module _ (P : RequirementFields → Type 0) where
  found_with : (test : List ℕ → Bool) (lists : List (Named (List GroupEntry)))
      → AllByRecursion (IsNamedList (AllByRecursion (IsEntryWith P))) lists
      → AllByRecursion (IsEntryWith P) (some_entries (lookup test lists))
  found_with test [] h = tt
  found_with test (l ∷ lists) h = by_test (test l.0) (found_with test lists h.1)
    where
      by_test : (b : Bool) → AllByRecursion (IsEntryWith P) (some_entries (lookup test lists))
          → AllByRecursion (IsEntryWith P) (some_entries (cond b (Some l.1) (lookup test lists)))
      by_test true rest = h.0.1
      by_test false rest = rest

  -- lists with requirements of the group `dev`
  dev_with : (qs : List RequirementFields) (lists : List (Named (List GroupEntry))) → AreAll P qs
      → AllByRecursion (IsNamedList (AllByRecursion (IsEntryWith P))) lists
      → AllByRecursion (IsNamedList (AllByRecursion (IsEntryWith P))) (with_dev qs lists)
  dev_with [] lists h k = k
  dev_with (q ∷ qs) lists h k =
      put_named (AllByRecursion (IsEntryWith P)) lists dev (entries_of dev lists ++ map Needs (q ∷ qs)) k dev_normal
      (more (IsEntryWith P) (entries_of dev lists) (map Needs (q ∷ qs)) (found_with (is_at (name_cmp dev)) lists k)
      (needed P (q ∷ qs) h))

module _ (P : RequirementFields → Type 0) (law : AreRead P) where
  address_has : (profile : Profile) (path : ProjectPath) (text : List ℕ) (o : Option RequirementFields)
      (q : RequirementFields) → grammar.reading_of text ≡ grammar.by_url o → address_read profile path o ≡ Ok q → P q
  address_has Strict path text o q is e = absurd (cc e)
  address_has Wide path text o q is e =
      let there : o ≡ Some q = was_there (requirement_fault path) o q e in
      law text q (inr (is ∙ ap (λ (u : Option RequirementFields). grammar.by_url u) there))

  reading_has : (profile : Profile) (path : ProjectPath) (text : List ℕ) (r : grammar.Reading) (q : RequirementFields)
      → grammar.reading_of text ≡ r → requirement_read profile path r ≡ Ok q → P q
  reading_has profile path text (grammar.requirement p) q is e =
      law text q
      (inl (subst (λ (x : RequirementFields). grammar.reading_of text ≡ grammar.requirement x) (same_ok p q e) is))
  reading_has profile path text (grammar.by_url o) q is e = address_has profile path text o q is e
  reading_has profile path text grammar.unread q is e = absurd (cc e)

  -- a requirement at a place
  pub requirement_has : (profile : Profile) (place : Place) (i : ℕ) (d : Data) (q : RequirementFields)
      → requirement_at profile place i d ≡ Ok q → P q
  unfolding requirement_at
  requirement_has profile place i d q e =
      let path = Entry place i in
      let text = went_on (text_at path (Some d)) (λ t. requirement_read profile path (grammar.reading_of t)) q e in
      reading_has profile path text.0 (grammar.reading_of text.0) q refl text.2

  requirements_have : (profile : Profile) (place : Place) (value : Option Data) (qs : List RequirementFields)
      → requirements_at profile place value ≡ Ok qs → AreAll P qs
  unfolding requirements_at
  requirements_have profile place value qs e =
      let items = went_on (optional_items_at (Whole place) value) (each_from (requirement_at profile place) 0) qs e in
      each_all P (requirement_at profile place) (requirement_has profile place) 0 items.0 qs items.2

  dev_have : (profile : Profile) (extras : List (List ℕ)) (uv : Members) (qs : List RequirementFields)
      → dev_dependencies_in profile extras uv ≡ Ok qs → AreAll P qs
  unfolding dev_dependencies_at
  dev_have Strict extras uv qs e = subst (AreAll P) (same_ok [] qs e) tt
  dev_have Wide extras uv qs e =
      let value = get_member (codes "dev-dependencies") uv in
      let items = went_on (optional_items_at (at_key key.DevDependencies) value) _ qs e in
      let allowed = went_on (dev_allowed extras items.0) _ qs items.2 in
      let list = place.Key key.DevDependencies in
      each_all P (requirement_at Wide list) (requirement_has Wide list) 0 allowed.0 qs allowed.2

  -- ---- extras and groups

  extras_have : (profile : Profile) (value : Option Data) (lists : List (Named (List RequirementFields)))
      → extras_at profile value ≡ Ok lists → AllByRecursion (IsNamedList (AreAll P)) lists
  unfolding extras_at
  extras_have profile value lists e =
      let at = at_key key.OptionalDependencies in
      let ms = went_on (optional_table_at at value) (named_lists (shape at) [] (extra_list_at profile)) lists e in
      named_read (AreAll P) (shape at) (extra_list_at profile)
      (λ name v qs is. requirements_have profile (place.Extra name) v qs is) [] ms.0 lists ms.2

  entry_has : (profile : Profile) (group : List ℕ) (i : ℕ) (d : Data) (x : GroupEntry)
      → group_entry_at profile group i d ≡ Ok x → IsEntryWith P x
  unfolding group_entry_at
  entry_has profile group i (table ms) x e =
      let no_name = shape (Entry (place.Group group) i) in
      let name = went_on (or_fault no_name (included_group ms)) (λ n. Ok (Include n)) x e in
      subst (λ (y : GroupEntry). IsEntryWith P y) (same_ok (Include name.0) x name.2) tt
  entry_has profile group i value x e =
      let q = went_on (requirement_at profile (place.Group group) i value) (λ p. Ok (Needs p)) x e in
      subst (λ (y : GroupEntry). IsEntryWith P y) (same_ok (Needs q.0) x q.2)
      (requirement_has profile (place.Group group) i value q.0 q.1)

  entries_have : (profile : Profile) (group : List ℕ) (value : Option Data) (xs : List GroupEntry)
      → group_entries_at profile group value ≡ Ok xs → AllByRecursion (IsEntryWith P) xs
  unfolding group_entries_at
  entries_have profile group value xs e =
      let read = group_entry_at profile group in
      let items = went_on (items_at (Whole (place.Group group)) value) (each_from read 0) xs e in
      each_all (IsEntryWith P) read (entry_has profile group) 0 items.0 xs items.2

  as_groups : (lists : List (Named (List GroupEntry)))
      → AllByRecursion (IsNamedList (AllByRecursion (IsEntryWith P))) lists
      → AllByRecursion (IsGroupWith P) (map group_of lists)
  as_groups [] h = tt
  as_groups (l ∷ lists) h = (record { name = h.0.0; entries = h.0.1 }, as_groups lists h.1)

  groups_have : (profile : Profile) (extras : List (List ℕ)) (value : Option Data)
      (lists : List (Named (List GroupEntry))) → group_lists_at profile extras value ≡ Ok lists
      → AllByRecursion (IsNamedList (AllByRecursion (IsEntryWith P))) lists
  unfolding group_lists_at
  groups_have profile extras value lists e =
      let at = at_key key.DependencyGroups in
      let entries = group_entries_at profile in
      let ms = went_on (optional_table_at at value) (named_lists (shape at) extras entries) lists e in
      named_read (AllByRecursion (IsEntryWith P)) (shape at) entries (entries_have profile) extras ms.0 lists ms.2

  -- ---- the whole file

  module _ (of : IsOfExtras P) where
    extra_have : (lists : List (Named (List RequirementFields))) → AllByRecursion (IsNamedList (AreAll P)) lists
        → AreAll P (extra_requirements lists)
    extra_have [] h = tt
    extra_have (l ∷ lists) h =
        more P (map (of_extra l.0) l.1) (extra_requirements lists) (as_extra P of l.0 l.1 h.0.0 h.0.1)
        (extra_have lists h.1)

    -- a file that is read is such
    pub file_has : (bytes : List ℕ) (f : FileFields) → file_of bytes ≡ Ok f → IsFileWith P f
    file_has bytes f e =
        let from = file_from bytes f e in
        let optional = get_member (codes "optional-dependencies") from.project in
        let said = extras_have from.profile optional from.lists from.optional in
        let listed = get_member (codes "dependencies") from.project in
        let own = requirements_have from.profile (place.Key key.Dependencies) listed from.own from.dependencies in
        let members = get_member (codes "dependency-groups") from.document in
        let groups = groups_have from.profile (names_of from.lists) members from.groups from.listed in
        let needs = dev_have from.profile (names_of from.lists) from.settings.members from.dev from.settings.dev in
        record {
          requirements = subst (AreAll P) from.requirements
              (more P from.own (extra_requirements from.lists) own (extra_have from.lists said));
          extras = subst (λ (ns : List (List ℕ)). AllByRecursion IsNormalName ns) from.extras
              (names_normal (AreAll P) from.lists said);
          groups = subst (λ (gs : List GroupFields). AllByRecursion (IsGroupWith P) gs) from.with_dev
              (as_groups (with_dev from.dev from.groups) (dev_with P from.dev from.groups needs groups));
        }
