-- A project whose groups are extras has requirements that are such, where the project had.
use Rattle.std.proofs.Common.{◌≡◌, ℕ, zero, suc, List, [], ◌∷◌, ◌++◌, map, take, drop, Ok}
use Rattle.std.specs.Prelude.{zip}
use Rattle.std.specs.List.{AllByRecursion}
use Rattle.ul_base.specs.Names.{IsNormalName}
use Rattle.ul_requirement.specs.Fields.{ReleaseFields, RequirementFields}
use Rattle.ul_project.specs.Fields.{ProjectFields}
use Rattle.ul_project.specs.Lists.{by_name}
use Rattle.ul_groups.specs.Expanded.{Expanding, ExtraLists, all_lists, expanded_project, first_requirements, group_lists, group_named, joined_lists, lists_by, lists_of, own_size, with_extras, with_lists}
use Rattle.laws_given.proofs.FileRequirements.{AreAll, IsGroupWith, IsOfExtras}
use Rattle.laws_given.proofs.GroupLists.{lists_have}
use Rattle.laws_given.proofs.Lists.{more}
use Rattle.laws_given.proofs.NamedLists.{IsNamedList, fold_named, names_normal}
use Rattle.laws_given.proofs.Readings.{went_on}

-- what is true of a release as soon as its requirements are such
pub record IsOfRequirements (P : RequirementFields → Type 0) (R : ReleaseFields → Type 0) : Type 0 where
  pub has : (r : ReleaseFields) → R r → AreAll P r.requirements
  pub stays : (r : ReleaseFields) (qs : List RequirementFields) → R r → AreAll P qs → R (record r { requirements = qs })

-- a project whose releases and groups are such, and whose extras are names
pub record IsProjectWith (P : RequirementFields → Type 0) (R : ReleaseFields → Type 0) (p : ProjectFields)
    : Type 0 where
  pub releases : AllByRecursion R p.package.releases
  pub extras : AllByRecursion IsNormalName p.extras
  pub groups : AllByRecursion (IsGroupWith P) p.groups

-- the project with these lists of its groups as extras
abbrev pub project_with : ProjectFields → ExtraLists → ProjectFields
project_with p lists = with_extras p (all_lists p.extras p.sizes p.package lists)

-- an expanded project is one with the lists of its groups
pub record IsExpandedBy (p q : ProjectFields) : Type 0 where
  pub lists : ExtraLists
  pub of_groups : group_lists (group_named p.groups) p.groups ≡ Ok lists
  pub is : project_with p lists ≡ q

same_ok : {A : Type 0} (x y : A) → (let r : Expanding A = Ok x in r) ≡ Ok y → x ≡ y
same_ok x y e = cc

pub expanded_by : (p q : ProjectFields) → expanded_project p ≡ Ok q → IsExpandedBy p q
expanded_by p q e =
    let lists = went_on (group_lists (group_named p.groups) p.groups) (λ found. Ok (project_with p found)) q e in
    record { lists = lists.0; of_groups = lists.1; is = same_ok (project_with p lists.0) q lists.2 }

all_take : {A : Type 0} (P : A → Type 0) (n : ℕ) (xs : List A) → AllByRecursion P xs → AllByRecursion P (take n xs)
all_take P zero xs h = tt
all_take P (suc n) [] h = tt
all_take P (suc n) (x ∷ xs) h = (h.0, all_take P n xs h.1)

all_drop : {A : Type 0} (P : A → Type 0) (n : ℕ) (xs : List A) → AllByRecursion P xs → AllByRecursion P (drop n xs)
all_drop P zero xs h = h
all_drop P (suc n) [] h = tt
all_drop P (suc n) (x ∷ xs) h = all_drop P n xs h.1

module _ (P : RequirementFields → Type 0) where
  zipped : (extras : List (List ℕ)) (sizes : List ℕ) (qs : List RequirementFields)
      → AllByRecursion IsNormalName extras → AreAll P qs
      → AllByRecursion (IsNamedList (AreAll P)) (zip extras (lists_by sizes qs))
  zipped [] sizes qs h k = tt
  zipped (x ∷ extras) [] qs h k = tt
  zipped (x ∷ extras) (n ∷ sizes) qs h k =
      ((h.0, all_take P n qs k), zipped extras sizes (drop n qs) h.1 (all_drop P n qs k))

  joined_have : (lists : ExtraLists) → AllByRecursion (IsNamedList (AreAll P)) lists → AreAll P (joined_lists lists)
  joined_have [] h = tt
  joined_have (l ∷ lists) h = more P l.1 (joined_lists lists) h.0.1 (joined_have lists h.1)

module _ (P : RequirementFields → Type 0) (R : ReleaseFields → Type 0) (on : IsOfRequirements P R) where
  releases_have : (own : ℕ) (lists : ExtraLists) → AllByRecursion (IsNamedList (AreAll P)) lists
      → (rs : List ReleaseFields) → AllByRecursion R rs → AllByRecursion R (map (with_lists own lists) rs)
  releases_have own lists k [] h = tt
  releases_have own lists k (r ∷ rs) h =
      let first = all_take P own r.requirements (on.has r h.0) in
      let all = more P (take own r.requirements) (joined_lists lists) first (joined_have P lists k) in
      (on.stays r (take own r.requirements ++ joined_lists lists) h.0 all, releases_have own lists k rs h.1)

  first_has : (rs : List ReleaseFields) → AllByRecursion R rs → AreAll P (first_requirements rs)
  first_has [] h = tt
  first_has (r ∷ rs) h = on.has r h.0

  with_has : (p : ProjectFields) (lists : ExtraLists) → IsProjectWith P R p
      → AllByRecursion (IsNamedList (AreAll P)) lists → IsProjectWith P R (project_with p lists)
  with_has p lists h k =
      let qs = first_requirements p.package.releases in
      let own = own_size p.sizes qs in
      let joined = lists_of p.extras p.sizes qs ++ lists in
      let rest = all_drop P own qs (first_has p.package.releases h.releases) in
      let zips = zipped P p.extras p.sizes (drop own qs) h.extras rest in
      let both = more (IsNamedList (AreAll P)) (lists_of p.extras p.sizes qs) lists zips k in
      let all = fold_named (AreAll P) [] joined tt both in
      record {
        releases = releases_have own (by_name joined) all p.package.releases h.releases;
        extras = names_normal (AreAll P) (by_name joined) all;
        groups = tt;
      }

  -- an expanded project is such
  pub expanded_has : IsOfExtras P → (p : ProjectFields) (lists : ExtraLists) → IsProjectWith P R p
      → group_lists (group_named p.groups) p.groups ≡ Ok lists → IsProjectWith P R (project_with p lists)
  expanded_has of p lists h e = with_has p lists h (lists_have P of p.groups lists h.groups e)
