-- Worked examples: the lists of groups, and includes that are refused.
use Rattle.std.specs.Prelude.{◌≡◌, ℕ, List, [], ◌∷◌, codes, true, None, Some, Ok, Err}
use Rattle.ul_comparison.specs.Formulas.{extra}
use Rattle.ul_requirement.specs.Fields.{RequirementFields}
use Rattle.ul_project.specs.Groups.{GroupFields}
use Rattle.ul_project.specs.declared.group.GroupEntry.{GroupEntry}
use Rattle.ul_project.specs.declared.group.GroupEntry.TheVariants.{Needs, Include}
use Rattle.ul_project.specs.declared.path.Place.TheVariants.{Group}
use Rattle.ul_project.specs.declared.path.ProjectPath.{ProjectPath}
use Rattle.ul_project.specs.declared.path.ProjectPath.TheVariants.{Entry}
use Rattle.ul_groups.specs.Expanded.{Expanding, ExtraLists, group_list, group_lists, group_named, lists_of, refused}
use Rattle.ul_groups.specs.Vectors.{asks}

-- a requirement of a name
abbrev pub of_name : List ℕ → RequirementFields
of_name name = asks name [] [] None

-- a group of these entries
abbrev pub group : List ℕ → List GroupEntry → GroupFields
group name entries = record { name = name; entries = entries }

-- `a` includes `b` twice and `c` once
abbrev pub includer : GroupFields
includer =
    group (codes "a")
    (Include (codes "b") ∷ Needs (of_name (codes "x")) ∷ Include (codes "c") ∷ Include (codes "b") ∷ [])

-- beside it, `b` includes `c`
abbrev pub shared_groups : List GroupFields
shared_groups =
    includer
    ∷ group (codes "b") (Include (codes "c") ∷ Needs (of_name (codes "y")) ∷ [])
    ∷ group (codes "c") (Needs (of_name (codes "z")) ∷ []) ∷ []

-- `a` includes `b`, and `b` includes `a`
abbrev pub circle : List GroupFields
circle =
    group (codes "a") (Needs (of_name (codes "x")) ∷ Include (codes "b") ∷ [])
    ∷ group (codes "b") (Include (codes "a") ∷ []) ∷ []

-- `a` includes itself
abbrev pub selfish : GroupFields
selfish = group (codes "a") (Include (codes "a") ∷ [])

-- the place of an entry of a group
abbrev pub at_entry : List ℕ → ℕ → ProjectPath
at_entry name i = Entry (Group name) i

-- the list of a group, and the lists of all groups
abbrev pub list_in : List GroupFields → GroupFields → Expanding (List RequirementFields)
list_in groups = group_list (group_named groups)

-- the lists of all groups among these, or the first include that is refused
abbrev pub lists_in : List GroupFields → List GroupFields → Expanding ExtraLists
lists_in groups = group_lists (group_named groups)

-- the lists of groups, and the first include that is refused
pub record ExpandedGroups : Type 0 where
  pub each_once : list_in shared_groups includer
      ≡ Ok (of_name (codes "z") ∷ of_name (codes "y") ∷ of_name (codes "x") ∷ [])
  pub under_extras : lists_in shared_groups (group (codes "c") (Needs (of_name (codes "z")) ∷ []) ∷ [])
      ≡ Ok ((codes "group-c", asks (codes "z") [] [] (Some (extra (codes "group-c") true)) ∷ []) ∷ [])
  pub twice_a_requirement :
      list_in [] (group (codes "a") (Needs (of_name (codes "x")) ∷ Needs (of_name (codes "x")) ∷ []))
      ≡ Ok (of_name (codes "x") ∷ of_name (codes "x") ∷ [])
  pub no_group : lists_in shared_groups (group (codes "d") (Needs (of_name (codes "x")) ∷ Include (codes "e") ∷ []) ∷ [])
      ≡ Err (refused (at_entry (codes "d") 1))
  pub itself : lists_in (selfish ∷ []) (selfish ∷ []) ≡ Err (refused (at_entry (codes "a") 0))
  pub in_a_circle : lists_in circle circle ≡ Err (refused (at_entry (codes "b") 0))
  pub lists_of_extras :
      lists_of (codes "e" ∷ codes "f" ∷ []) (0 ∷ 1 ∷ []) (of_name (codes "x") ∷ of_name (codes "y") ∷ [])
      ≡ (codes "e", []) ∷ (codes "f", of_name (codes "y") ∷ []) ∷ []
