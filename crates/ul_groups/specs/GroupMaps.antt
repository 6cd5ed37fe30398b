-- Groups in a map from their names.
use Rattle.std.specs.Prelude.{◌≡◌, ℕ, List, option_map}
use Rattle.std.specs.Borrow.{Bor}
use Rattle.std.specs.BTreeMap.{is_at}
use Rattle.std.specs.Map.{lookup}
use Rattle.ul_base.specs.Names.{name_cmp}
use Rattle.ul_requirement.specs.Fields.{RequirementFields}
use Rattle.ul_project.specs.Groups.{GroupFields}
use Rattle.ul_groups.specs.Expanded.{GroupByName, ListFields, group_named}

-- what a map of groups has at a name
abbrev pub groups_in : List (List ℕ × Bor GroupFields) → GroupByName
groups_in entries name = option_map (λ g. g.now) (lookup (is_at (name_cmp name)) entries)

-- a map has at each name the group of that name
abbrev pub HasGroups : List (List ℕ × Bor GroupFields) → List GroupFields → Type 0
HasGroups entries groups = (name : List ℕ) → groups_in entries name ≡ group_named groups name

-- a list that is being made, by its parts
abbrev pub list_fields : List RequirementFields → List (List ℕ) → List (List ℕ) → ListFields
list_fields requirements begun done = record { requirements = requirements; begun = begun; done = done }
