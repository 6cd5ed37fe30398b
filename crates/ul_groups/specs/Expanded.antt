-- Dependency groups expanded (PEP 735): each group becomes an extra of the project.
use Rattle.std.specs.Prelude.{ℕ, zero, suc, ◌+◌, ◌-◌, ◌^◌, List, [], ◌∷◌, ◌++◌, length, find, map, take, drop, sum, zip, Option, Some, None, Result, Ok, Err, if◌then◌else◌}
use Rattle.std.specs.BTreeMap.{is_at}
use Rattle.std.specs.BTreeSet.{insert_key}
use Rattle.ul_base.specs.Names.{name_cmp}
use Rattle.ul_requirement.specs.Fields.{PackageFields, ReleaseFields, RequirementFields}
use Rattle.ul_project.specs.Extras.{extra_size, of_extra}
use Rattle.ul_project.specs.Fields.{ProjectFields}
use Rattle.ul_project.specs.Groups.{GroupFields}
use Rattle.ul_project.specs.Lists.{Named, by_name, group_extra, has_name, names_of}
use Rattle.ul_project.specs.Results.{◌>>=◌}
use Rattle.ul_project.specs.declared.group.GroupEntry.{GroupEntry}
use Rattle.ul_project.specs.declared.group.GroupEntry.TheVariants.{Needs, Include}
use Rattle.ul_project.specs.declared.path.Place.TheVariants.{Group}
use Rattle.ul_project.specs.declared.path.ProjectPath.{ProjectPath}
use Rattle.ul_project.specs.declared.path.ProjectPath.TheVariants.{Entry}

-- why groups aren't expanded: an include at this place is refused
pub data Stop : Type 0 where
  refused : ProjectPath → Stop

-- what is expanded, or the first reason against it
abbrev pub Expanding : Type 0 → Type 0
Expanding A = Result A Stop

-- so many levels of includes are followed, as many as a machine's word counts: more than there are groups, and a group
-- that is being expanded isn't begun again
abbrev pub deepest : ℕ
deepest = 2 ^ 64

-- a list that is being made, the groups whose expansion in it was begun, and those whose expansion is done
pub record ListFields : Type 0 where
  pub requirements : List RequirementFields
  pub begun : List (List ℕ)
  pub done : List (List ℕ)

-- the group of each name
abbrev pub GroupByName : Type 0
GroupByName = List ℕ → Option GroupFields

-- the group of a name among groups
abbrev pub group_named : List GroupFields → GroupByName
group_named groups name = find (λ g. is_at (name_cmp g.name) name) groups

-- a step of an expansion: the list with a group's entries
abbrev pub Expand : Type 0
Expand = GroupFields → ListFields → Expanding ListFields

-- the set of names with one more
abbrev pub with_one : List (List ℕ) → List ℕ → List (List ℕ)
with_one names name = insert_key name_cmp names name

-- an include: one of no group, or of a group that is being expanded, is refused at its place; one of a group that was
-- expanded in this list adds nothing; any other adds the entries of its group
abbrev pub with_include : Expand → ProjectPath → List ℕ → Option GroupFields → ListFields → Expanding ListFields
with_include expand place name None list = Err (refused place)
with_include expand place name (Some g) list =
    if has_name list.done name then Ok list
    else if has_name list.begun name then Err (refused place)
    else (expand g (record list { begun = with_one list.begun name })
    >>= λ after. Ok (record after { done = with_one after.done name }))

-- an entry of a group: a requirement stands in the list as it is
abbrev pub with_entry : GroupByName → Expand → (group : List ℕ) → ℕ → GroupEntry → ListFields → Expanding ListFields
with_entry groups expand group i (Needs q) list = Ok (record list { requirements = list.requirements ++ q ∷ [] })
with_entry groups expand group i (Include name) list = with_include expand (Entry (Group group) i) name (groups name) list

-- the entries of a group, in order, from one on
unfoldable pub with_entries : GroupByName → Expand → (group : List ℕ) → ℕ → List GroupEntry → ListFields
    → Expanding ListFields
with_entries groups expand group i [] list = Ok list
with_entries groups expand group i (e ∷ es) list =
    with_entry groups expand group i e list >>= λ after. with_entries groups expand group (i + 1) es after

-- a group's entries depth first, through this many levels
unfoldable pub with_group : ℕ → GroupByName → Expand
with_group zero groups g list = Ok list
with_group (suc depth) groups g list = with_entries groups (with_group depth groups) g.name 0 g.entries list

-- the list of a group
abbrev pub group_list : GroupByName → GroupFields → Expanding (List RequirementFields)
group_list groups g =
    with_group deepest groups g (record { requirements = []; begun = g.name ∷ []; done = [] })
    >>= λ list. Ok list.requirements

-- lists of requirements under their extras
abbrev pub ExtraLists : Type 0
ExtraLists = List (Named (List RequirementFields))

-- the list of a group, under the extra that the group becomes
abbrev pub extra_list : GroupByName → GroupFields → Expanding (Named (List RequirementFields))
extra_list groups g = group_list groups g >>= λ list. Ok (group_extra g.name, map (of_extra (group_extra g.name)) list)

-- the lists of groups, in their order, each under the extra that the group becomes; the first reason against it answers
unfoldable pub group_lists : GroupByName → List GroupFields → Expanding ExtraLists
group_lists groups [] = Ok []
group_lists groups (g ∷ gs) = do
  list ← extra_list groups g
  lists ← group_lists groups gs
  Ok (list ∷ lists)

-- the lists that requirements fall into, by their sizes
abbrev pub lists_by : List ℕ → List RequirementFields → List (List RequirementFields)
lists_by [] qs = []
lists_by (n ∷ ns) qs = take n qs ∷ lists_by ns (drop n qs)

-- how many requirements are the project's own, and no extra's
abbrev pub own_size : List ℕ → List RequirementFields → ℕ
own_size sizes qs = length qs - sum sizes

-- the lists of extras, which stand behind the project's own requirements
abbrev pub lists_of : (extras : List (List ℕ)) → (sizes : List ℕ) → List RequirementFields → ExtraLists
lists_of extras sizes qs = zip extras (lists_by sizes (drop (own_size sizes qs) qs))

-- the requirements of lists, one list behind the other
abbrev pub joined_lists : ExtraLists → List RequirementFields
joined_lists [] = []
joined_lists (list ∷ lists) = list.1 ++ joined_lists lists

-- a release that has these lists behind its first requirements
abbrev pub with_lists : ℕ → ExtraLists → ReleaseFields → ReleaseFields
with_lists own lists r = record r { requirements = take own r.requirements ++ joined_lists lists }

-- the requirements of the first release
abbrev pub first_requirements : List ReleaseFields → List RequirementFields
first_requirements [] = []
first_requirements (r ∷ rs) = r.requirements

-- a package that has these lists behind the requirements that are its own
abbrev pub package_with : (sizes : List ℕ) → ExtraLists → PackageFields → PackageFields
package_with sizes lists found = record found {
  releases = map (with_lists (own_size sizes (first_requirements found.releases)) lists) found.releases;
}

-- the lists of extras, which stand behind the project's own requirements, and these lists, in byte order of their names
abbrev pub lists_with : (extras : List (List ℕ)) → (sizes : List ℕ) → List RequirementFields → ExtraLists → ExtraLists
lists_with extras sizes qs lists = by_name (lists_of extras sizes qs ++ lists)

-- the lists of a package's extras and these lists, in byte order of their names
abbrev pub all_lists : (extras : List (List ℕ)) → (sizes : List ℕ) → PackageFields → ExtraLists → ExtraLists
all_lists extras sizes found lists = lists_with extras sizes (first_requirements found.releases) lists

-- a project with these extras, and no groups
abbrev pub with_extras : ProjectFields → ExtraLists → ProjectFields
with_extras p lists = record p {
  «package» = package_with p.sizes lists p.package;
  extras = names_of lists;
  sizes = map extra_size lists;
  groups = [];
}

-- a project whose groups are extras, each at its place in the byte order of all extras
abbrev pub expanded_project : ProjectFields → Expanding ProjectFields
expanded_project p =
    group_lists (group_named p.groups) p.groups
    >>= λ lists. Ok (with_extras p (all_lists p.extras p.sizes p.package lists))
