-- `tool.uv.dev-dependencies`: requirements of the group `dev`, as uv has had them since before there were groups. They
-- are read under the profile `wide` alone.
use Rattle.std.specs.Prelude.{ℕ, List, [], ◌∷◌, ◌++◌, codes, map, Option, Some, None, Ok, Err, if◌then◌else◌}
use Rattle.std.specs.BTreeMap.{is_at}
use Rattle.std.specs.Map.{lookup}
use Rattle.toml.specs.Data.{Data, Members, get_member}
use Rattle.ul_base.specs.Names.{name_cmp}
use Rattle.ul_requirement.specs.Fields.{RequirementFields}
use Rattle.ul_project.specs.GroupLists.{group_of}
use Rattle.ul_project.specs.Groups.{GroupFields}
use Rattle.ul_project.specs.Lists.{Named, group_extra, has_name, put_list}
use Rattle.ul_project.specs.Requirements.{requirement_at}
use Rattle.ul_project.specs.Results.{◌>>=◌, each_from}
use Rattle.ul_project.specs.Shapes.{Reading, at_key, optional_items_at, shape}
use Rattle.ul_project.specs.declared.group.GroupEntry.{GroupEntry}
use Rattle.ul_project.specs.declared.group.GroupEntry.TheVariants.{Needs}
use Rattle.ul_project.specs.declared.path.Place.TheVariants.{Key}
use Rattle.ul_project.specs.declared.path.ProjectKey.TheVariants.{DevDependencies}
use Rattle.ul_project.specs.declared.profile.Profile.{Profile}
use Rattle.ul_project.specs.declared.profile.Profile.TheVariants.{Strict, Wide}

-- the name of the group
abbrev pub dev : List ℕ
dev = codes "dev"

-- ---- reading

-- the entries, where there are any, make a group whose extra isn't one of these
abbrev pub dev_allowed : List (List ℕ) → List Data → Reading (List Data)
dev_allowed extras [] = Ok []
dev_allowed extras (d ∷ ds) = if has_name extras (group_extra dev) then Err (shape (at_key DevDependencies)) else Ok (d ∷ ds)

-- the requirements: an array, which may stand beside these extras, and whose entries are requirements
unfoldable pub dev_dependencies_at : List (List ℕ) → Option Data → Reading (List RequirementFields)
dev_dependencies_at extras value = do
  items ← optional_items_at (at_key DevDependencies) value
  allowed ← dev_allowed extras items
  each_from (requirement_at Wide (Key DevDependencies)) 0 allowed

-- the requirements that a profile reads
abbrev pub dev_dependencies_in : Profile → List (List ℕ) → Members → Reading (List RequirementFields)
dev_dependencies_in Strict extras uv = Ok []
dev_dependencies_in Wide extras uv = dev_dependencies_at extras (get_member (codes "dev-dependencies") uv)

-- ---- the group

-- entries that may be absent
abbrev pub some_entries : Option (List GroupEntry) → List GroupEntry
some_entries (Some entries) = entries
some_entries None = []

-- the entries of a group; where it isn't there, none
abbrev pub entries_of : List ℕ → List (Named (List GroupEntry)) → List GroupEntry
entries_of name lists = some_entries (lookup (is_at (name_cmp name)) lists)

-- requirements behind the entries of the group `dev`, which is made where it isn't there
abbrev pub with_dev : List RequirementFields → List (Named (List GroupEntry)) → List (Named (List GroupEntry))
with_dev [] lists = lists
with_dev (q ∷ qs) lists = put_list lists (dev, entries_of dev lists ++ map Needs (q ∷ qs))

-- the groups of these lists, in byte order of their names, with the requirements
abbrev pub groups_with : List RequirementFields → List (Named (List GroupEntry)) → List GroupFields
groups_with requirements lists = map group_of (with_dev requirements lists)
