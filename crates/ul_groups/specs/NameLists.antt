-- Requirements in a map from their names.
use Rattle.std.specs.Prelude.{◌≡◌, ℕ, List, [], Option, Some, None}
use Rattle.std.specs.BTreeMap.{is_at}
use Rattle.std.specs.Map.{lookup}
use Rattle.ul_base.specs.Names.{name_cmp}
use Rattle.ul_requirement.specs.Fields.{RequirementFields}
use Rattle.ul_groups.specs.Adjusted.{ByName, all_on}

-- lists under names
abbrev pub Entries : Type 0
Entries = List (List ℕ × List RequirementFields)

-- a list, where there is one
abbrev pub list_or_none : Option (List RequirementFields) → List RequirementFields
list_or_none None = []
list_or_none (Some list) = list

-- what a map has at a name
abbrev pub at_name : Entries → ByName
at_name entries name = list_or_none (lookup (is_at (name_cmp name)) entries)

-- a map has at each name those of the requirements that are on it
abbrev pub HasEach : Entries → List RequirementFields → Type 0
HasEach entries qs = (name : List ℕ) → at_name entries name ≡ all_on qs name
