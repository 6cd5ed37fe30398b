-- The paths of places in a project file.
use Rattle.std.specs.Prelude.{ℕ, List, ◌++◌, codes}
use Rattle.std.specs.Fmt.{decimal}
use Rattle.ul_project.specs.declared.path.Place.{Place}
use Rattle.ul_project.specs.declared.path.Place.TheVariants as place
use Rattle.ul_project.specs.declared.path.ProjectKey.{ProjectKey}
use Rattle.ul_project.specs.declared.path.ProjectKey.TheVariants as key
use Rattle.ul_project.specs.declared.path.ProjectPath.{ProjectPath}
use Rattle.ul_project.specs.declared.path.ProjectPath.TheVariants.{Whole, Entry}

-- the path of a key
abbrev pub key_text : ProjectKey → List ℕ
key_text key.Project = codes "project"
key_text key.Name = codes "project.name"
key_text key.Version = codes "project.version"
key_text key.Dynamic = codes "project.dynamic"
key_text key.RequiresPython = codes "project.requires-python"
key_text key.Dependencies = codes "project.dependencies"
key_text key.OptionalDependencies = codes "project.optional-dependencies"
key_text key.DependencyGroups = codes "dependency-groups"
key_text key.Tool = codes "tool"
key_text key.Uv = codes "tool.uv"
key_text key.Unilock = codes "tool.unilock"
key_text key.Profile = codes "tool.unilock.profile"
key_text key.Sources = codes "tool.uv.sources"
key_text key.Conflicts = codes "tool.uv.conflicts"
key_text key.Index = codes "tool.uv.index"
key_text key.ExtraIndexUrl = codes "tool.uv.extra-index-url"
key_text key.FindLinks = codes "tool.uv.find-links"
key_text key.Workspace = codes "tool.uv.workspace"
key_text key.DevDependencies = codes "tool.uv.dev-dependencies"
key_text key.ConstraintDependencies = codes "tool.uv.constraint-dependencies"
key_text key.OverrideDependencies = codes "tool.uv.override-dependencies"
key_text key.Environments = codes "tool.uv.environments"
key_text key.Resolution = codes "tool.uv.resolution"
key_text key.Prerelease = codes "tool.uv.prerelease"
key_text key.ForkStrategy = codes "tool.uv.fork-strategy"

-- the path of a place; extras, groups and names with sources stand under their normal forms
abbrev pub place_text : Place → List ℕ
place_text (place.Key k) = key_text k
place_text (place.Extra name) = codes "project.optional-dependencies." ++ name
place_text (place.Group name) = codes "dependency-groups." ++ name
place_text (place.Sources name) = codes "tool.uv.sources." ++ name

-- a path: a place, or an entry of the array there, counted from 0
abbrev pub path_text : ProjectPath → List ℕ
path_text (Whole place) = place_text place
path_text (Entry place entry) = place_text place ++ codes "[" ++ decimal entry ++ codes "]"
