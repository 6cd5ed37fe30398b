-- The dependency groups of a project file (PEP 735).
use Rattle.std.specs.Prelude.{ℕ, suc, ◌==◌, List, codes, Option, Some, None, Ok, if◌then◌else◌}
use Rattle.toml.specs.Data.{Data, string, table, Members, no_members, member, get_member}
use Rattle.ul_base.specs.Names.{name_of}
use Rattle.ul_project.specs.Groups.{GroupFields}
use Rattle.ul_project.specs.Lists.{Named, named_lists}
use Rattle.ul_project.specs.Requirements.{requirement_at}
use Rattle.ul_project.specs.Results.{◌>>=◌, each_from, or_fault}
use Rattle.ul_project.specs.Shapes.{Reading, at_key, items_at, optional_table_at, shape}
use Rattle.ul_project.specs.declared.group.GroupEntry.{GroupEntry}
use Rattle.ul_project.specs.declared.group.GroupEntry.TheVariants.{Needs, Include}
use Rattle.ul_project.specs.declared.path.Place.TheVariants as place
use Rattle.ul_project.specs.declared.path.ProjectKey.TheVariants.{DependencyGroups}
use Rattle.ul_project.specs.declared.path.ProjectPath.TheVariants.{Whole, Entry}
use Rattle.ul_project.specs.declared.profile.Profile.{Profile}

-- how many keys a table has
abbrev pub member_count : Members → ℕ
member_count no_members = 0
member_count (member key d ms) = suc (member_count ms)

-- the name that a value is
abbrev pub name_in : Option Data → Option (List ℕ)
name_in (Some (string text)) = name_of text
name_in other = None

-- the group that a table includes: its one key is `include-group`, whose text is a name
abbrev pub included_group : Members → Option (List ℕ)
included_group ms = if member_count ms == 1 then name_in (get_member (codes "include-group") ms) else None

-- an entry of a group: a table that includes a group, or a requirement
unfoldable pub group_entry_at : Profile → List ℕ → ℕ → Data → Reading GroupEntry
group_entry_at profile group i (table ms) =
    or_fault (shape (Entry (place.Group group) i)) (included_group ms) >>= λ name. Ok (Include name)
group_entry_at profile group i value = requirement_at profile (place.Group group) i value >>= λ q. Ok (Needs q)

-- the entries of a group: an array; the first entry that is refused answers
unfoldable pub group_entries_at : Profile → List ℕ → Option Data → Reading (List GroupEntry)
group_entries_at profile group value = items_at (Whole (place.Group group)) value >>= each_from (group_entry_at profile group) 0

-- a list as a group
abbrev pub group_of : Named (List GroupEntry) → GroupFields
group_of list = record { name = list.0; entries = list.1 }

-- the lists of the groups, in byte order of their names: a table whose keys are names, none of which becomes an extra
-- that the project has, and whose values are lists of entries
unfoldable pub group_lists_at : Profile → List (List ℕ) → Option Data → Reading (List (Named (List GroupEntry)))
group_lists_at profile extras value =
    optional_table_at (at_key DependencyGroups) value >>= named_lists (shape (at_key DependencyGroups)) extras (group_entries_at profile)
