-- The lists that groups give as extras have requirements that are such, where the groups have.
use Rattle.std.proofs.Common.{◌≡◌, ℕ, zero, suc, ◌+◌, List, [], ◌∷◌, ◌++◌, map, Bool, true, false, cond, Option, Some, None, Ok, Err, refl, ap, subst}
use Rattle.std.specs.BTreeMap.{is_at}
use Rattle.std.specs.List.{AllByRecursion}
use Rattle.ul_base.specs.Names.{name_cmp}
use Rattle.ul_base.proofs.ForCallers.{found_in}
use Rattle.ul_requirement.specs.Fields.{RequirementFields}
use Rattle.ul_project.specs.Extras.{of_extra}
use Rattle.ul_project.specs.Groups.{GroupFields}
use Rattle.ul_project.specs.Lists.{Named, group_extra, has_name}
use Rattle.ul_project.specs.Results.{◌>>=◌}
use Rattle.ul_project.specs.declared.group.GroupEntry.{GroupEntry}
use Rattle.ul_project.specs.declared.group.GroupEntry.TheVariants.{Needs, Include}
use Rattle.ul_project.specs.declared.path.Place.TheVariants.{Group}
use Rattle.ul_project.specs.declared.path.ProjectPath.{ProjectPath}
use Rattle.ul_project.specs.declared.path.ProjectPath.TheVariants.{Entry}
use Rattle.ul_groups.specs.Expanded.{Expand, Expanding, ExtraLists, GroupByName, ListFields, deepest, extra_list, group_list, group_lists, group_named, refused, with_entries, with_entry, with_group, with_include, with_one}
use Rattle.laws_given.proofs.FileRequirements.{AreAll, IsEntryWith, IsGroupWith, IsOfExtras, as_extra}
use Rattle.laws_given.proofs.GroupExtras.{extra_normal}
use Rattle.laws_given.proofs.Lists.{all_at, more}
use Rattle.laws_given.proofs.NamedLists.{IsNamedList}
use Rattle.laws_given.proofs.Readings.{went_on}

same_ok : {A : Type 0} (x y : A) → (let r : Expanding A = Ok x in r) ≡ Ok y → x ≡ y
same_ok x y e = cc

module _ (P : RequirementFields → Type 0) where
  -- what is found under a name is a group that is such
  abbrev FindsWith : GroupByName → Type 0
  FindsWith groups = (name : List ℕ) (g : GroupFields) → groups name ≡ Some g → IsGroupWith P g

  -- a step keeps requirements such
  abbrev Keeps : Expand → Type 0
  Keeps expand = (g : GroupFields) (list after : ListFields) → IsGroupWith P g → AreAll P list.requirements
      → expand g list ≡ Ok after → AreAll P after.requirements

  same_list : (a b : ListFields) → (let r : Expanding ListFields = Ok a in r) ≡ Ok b → AreAll P a.requirements
      → AreAll P b.requirements
  same_list a b e h = subst (AreAll P) (ap (λ (x : ListFields). x.requirements) (same_ok a b e)) h

  include_kept : (expand : Expand) → Keeps expand
      → (place : ProjectPath) (name : List ℕ) (o : Option GroupFields) (list after : ListFields)
      → ((g : GroupFields) → o ≡ Some g → IsGroupWith P g) → AreAll P list.requirements
      → with_include expand place name o list ≡ Ok after → AreAll P after.requirements
  include_kept expand keeps place name None list after good h e = absurd (cc e)
  include_kept expand keeps place name (Some g) list after good h e =
      by_tests (has_name list.done name) (has_name list.begun name) e
    where
      by_tests : (a b : Bool)
          → cond a (Ok list) (cond b (Err (refused place)) (expand g (record list { begun = with_one list.begun name })
          >>= λ x. Ok (record x { done = with_one x.done name }))) ≡ Ok after → AreAll P after.requirements
      by_tests true b e = same_list list after e h
      by_tests false true e = absurd (cc e)
      by_tests false false e =
          let begun = record list { begun = with_one list.begun name } in
          let x = went_on (expand g begun) (λ y. Ok (record y { done = with_one y.done name })) after e in
          same_list (record x.0 { done = with_one x.0.done name }) after x.2 (keeps g begun x.0 (good g refl) h x.1)

  module _ (groups : GroupByName) (finds : FindsWith groups) where
    entry_kept : (expand : Expand) → Keeps expand
        → (group : List ℕ) (i : ℕ) (x : GroupEntry) (list after : ListFields) → IsEntryWith P x
        → AreAll P list.requirements → with_entry groups expand group i x list ≡ Ok after
        → AreAll P after.requirements
    entry_kept expand keeps group i (Needs q) list after is h e =
        same_list (record list { requirements = list.requirements ++ q ∷ [] }) after e
        (more P list.requirements (q ∷ []) h (is, tt))
    entry_kept expand keeps group i (Include name) list after is h e =
        include_kept expand keeps (Entry (Group group) i) name (groups name) list after (finds name) h e

    entries_kept : (expand : Expand) → Keeps expand
        → (group : List ℕ) (i : ℕ) (xs : List GroupEntry) (list after : ListFields)
        → AllByRecursion (IsEntryWith P) xs → AreAll P list.requirements
        → with_entries groups expand group i xs list ≡ Ok after → AreAll P after.requirements
    unfolding with_entries
    entries_kept expand keeps group i [] list after is h e = same_list list after e h
    entries_kept expand keeps group i (x ∷ xs) list after is h e =
        let one =
        went_on (with_entry groups expand group i x list) (with_entries groups expand group (i + 1) xs) after e in
        entries_kept expand keeps group (i + 1) xs one.0 after is.1
        (entry_kept expand keeps group i x list one.0 is.0 h one.1) one.2

    group_keeps : (depth : ℕ) → Keeps (with_group depth groups)
    unfolding with_group
    group_keeps zero g list after is h e = same_list list after e h
    group_keeps (suc depth) g list after is h e =
        entries_kept (with_group depth groups) (group_keeps depth) g.name 0 g.entries list after is.entries h e

    module _ (of : IsOfExtras P) where
      list_has : (g : GroupFields) (list : Named (List RequirementFields)) → IsGroupWith P g
          → extra_list groups g ≡ Ok list → IsNamedList (AreAll P) list
      list_has g list is e =
          let extra = group_extra g.name in
          let qs = went_on (group_list groups g) (λ x. Ok (extra, map (of_extra extra) x)) list e in
          let start : ListFields = record { requirements = []; begun = g.name ∷ []; done = [] } in
          let all = went_on (with_group deepest groups g start) (λ x. Ok x.requirements) qs.0 qs.1 in
          let are : AreAll P qs.0 =
          subst (AreAll P) (same_ok all.0.requirements qs.0 all.2) (group_keeps deepest g start all.0 is tt all.1) in
          let named = extra_normal g.name is.name in
          subst (IsNamedList (AreAll P)) (same_ok (extra, map (of_extra extra) qs.0) list qs.2)
          (named, as_extra P of extra qs.0 named are)

      each_has : (gs : List GroupFields) (lists : ExtraLists) → AllByRecursion (IsGroupWith P) gs
          → group_lists groups gs ≡ Ok lists → AllByRecursion (IsNamedList (AreAll P)) lists
      unfolding group_lists
      each_has [] lists is e =
          subst (λ (x : ExtraLists). AllByRecursion (IsNamedList (AreAll P)) x) (same_ok [] lists e) tt
      each_has (g ∷ gs) lists is e =
          let one = went_on (extra_list groups g) _ lists e in
          let rest = went_on (group_lists groups gs) _ lists one.2 in
          subst (λ (x : ExtraLists). AllByRecursion (IsNamedList (AreAll P)) x) (same_ok (one.0 ∷ rest.0) lists rest.2)
          (list_has g one.0 is.0 one.1, each_has gs rest.0 is.1 rest.1)

  -- the lists of groups
  pub lists_have : IsOfExtras P → (gs : List GroupFields) (lists : ExtraLists) → AllByRecursion (IsGroupWith P) gs
      → group_lists (group_named gs) gs ≡ Ok lists → AllByRecursion (IsNamedList (AreAll P)) lists
  lists_have of gs lists is e =
      let finds : FindsWith (group_named gs) =
      λ name g found. all_at (IsGroupWith P) gs g is
      (found_in (λ (x : GroupFields). is_at (name_cmp x.name) name) gs g found) in
      each_has (group_named gs) finds of gs lists is e
