-- What the project requires by its extras (PEP 621, PEP 685).
use Rattle.std.specs.Prelude.{ℕ, List, [], ◌∷◌, ◌++◌, length, map, true, Option, Some, None}
use Rattle.toml.specs.Data.{Data}
use Rattle.ul_comparison.specs.Formulas.{Formula, all, extra, more, none}
use Rattle.ul_requirement.specs.Fields.{RequirementFields}
use Rattle.ul_project.specs.Lists.{Named, named_lists}
use Rattle.ul_project.specs.Requirements.{requirements_at}
use Rattle.ul_project.specs.Results.{◌>>=◌}
use Rattle.ul_project.specs.Shapes.{Reading, at_key, optional_table_at, shape}
use Rattle.ul_project.specs.declared.path.Place.TheVariants.{Extra}
use Rattle.ul_project.specs.declared.path.ProjectKey.TheVariants.{OptionalDependencies}
use Rattle.ul_project.specs.declared.profile.Profile.{Profile}

-- the list of an extra
abbrev pub extra_list_at : Profile → List ℕ → Option Data → Reading (List RequirementFields)
extra_list_at profile name value = requirements_at profile (Extra name) value

-- the optional dependencies: a table whose keys are names, and whose values are lists of requirements; in byte order of
-- the extras
unfoldable pub extras_at : Profile → Option Data → Reading (List (Named (List RequirementFields)))
extras_at profile value =
    optional_table_at (at_key OptionalDependencies) value >>= named_lists (shape (at_key OptionalDependencies)) [] (extra_list_at profile)

-- two markers joined by `and`, where there are any
abbrev pub joined_markers : Option Formula → Option Formula → Option Formula
joined_markers None b = b
joined_markers (Some a) None = Some a
joined_markers (Some a) (Some b) = Some (all (more a (more b none)))

-- the marker `extra == 'NAME'`
abbrev pub extra_marker : List ℕ → Option Formula
extra_marker name = Some (extra name true)

-- a requirement of an extra, as the project's: `extra == 'NAME'` is joined to its marker
abbrev pub of_extra : List ℕ → RequirementFields → RequirementFields
of_extra name q = record q { marker = joined_markers q.marker (extra_marker name) }

-- the requirements of extras, as the project's, in the order of the extras
abbrev pub extra_requirements : List (Named (List RequirementFields)) → List RequirementFields
extra_requirements [] = []
extra_requirements (list ∷ lists) = map (of_extra list.0) list.1 ++ extra_requirements lists

-- how many requirements an extra has
abbrev pub extra_size : Named (List RequirementFields) → ℕ
extra_size list = length list.1
