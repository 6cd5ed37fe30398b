-- `tool.uv.sources`: where the releases of a name have to come from, whoever requires it. They are read under the profile
-- `wide` alone.
use Rattle.std.specs.Prelude.{ℕ, List, [], ◌∷◌, codes, filter, map, Bool, true, false, not, ◌||◌, Option, Some, None, Ok, Err, if◌then◌else◌}
use Rattle.std.specs.List.{list_any}
use Rattle.std.specs.Str.{bytes_eq}
use Rattle.toml.specs.Data.{Data, table, Members, get_member}
use Rattle.ul_comparison.specs.Formulas.{Formula}
use Rattle.ul_marker.specs.Parts.{asks_extra}
use Rattle.ul_marker.specs.Reading.{marker_of}
use Rattle.ul_requirement.specs.Fields.{MayBeFormula}
use Rattle.ul_project.specs.GroupLists.{name_in}
use Rattle.ul_project.specs.Lists.{Named, are_names, by_name, lists_in}
use Rattle.ul_project.specs.Results.{◌>>=◌, each_from, or_fault}
use Rattle.ul_project.specs.Shapes.{Reading, at_key, items_at, optional_table_at, shape, table_at, text_at, unsupported}
use Rattle.ul_project.specs.declared.path.Place.TheVariants as place
use Rattle.ul_project.specs.declared.path.ProjectKey.TheVariants as key
use Rattle.ul_project.specs.declared.path.ProjectPath.{ProjectPath}
use Rattle.ul_project.specs.declared.path.ProjectPath.TheVariants.{Whole}
use Rattle.ul_project.specs.declared.profile.Profile.{Profile}

-- a source of a name: its label, which is the name of a package index, or `direct` for a path, a URL, a repository or a
-- member of a workspace; and the marker under which it counts, which is everywhere where it has none
pub record SourceFields : Type 0 where
  pub label : List ℕ
  pub condition : Option Formula

-- what is true of each source
pub record IsSource (s : SourceFields) : Type 0 where
  pub condition : MayBeFormula s.condition

-- a source as it is read, and whether it counts for an extra or a group alone
pub record SaidSource : Type 0 where
  pub source : SourceFields
  pub asks : Bool

-- ---- one source

-- the path of the sources of a name
abbrev pub sources_path : List ℕ → ProjectPath
sources_path name = Whole (place.Sources name)

-- the label of what doesn't come from a package index
abbrev pub direct : List ℕ
direct = codes "direct"

-- the name of a package index: any but `direct`
abbrev pub index_name : Option (List ℕ) → Option (List ℕ)
index_name None = None
index_name (Some name) = if bytes_eq name direct then None else Some name

-- the label: that of a package index, or `direct` where none is named
unfoldable pub label_at : ProjectPath → Option Data → Reading (List ℕ)
label_at path None = Ok direct
label_at path (Some value) = or_fault (shape path) (index_name (name_in (Some value)))

-- a marker that doesn't ask for an extra
abbrev pub bare_marker : ProjectPath → Formula → Reading (Option Formula)
bare_marker path m = if asks_extra m then Err (shape path) else Ok (Some m)

-- the marker of a text, which doesn't ask for an extra
abbrev pub condition_of : ProjectPath → List ℕ → Reading (Option Formula)
condition_of path text = or_fault (shape path) (marker_of text) >>= bare_marker path

-- the marker under which a source counts, where it has one
unfoldable pub condition_at : ProjectPath → Option Data → Reading (Option Formula)
condition_at path None = Ok None
condition_at path (Some value) = text_at path (Some value) >>= condition_of path

-- whether a source counts for an extra, or a group, alone: then a name says for which
unfoldable pub asks_at : ProjectPath → Option Data → Reading Bool
asks_at path None = Ok false
asks_at path (Some value) = or_fault (shape path) (name_in (Some value)) >>= λ name. Ok true

-- a source
unfoldable pub source_in : ProjectPath → Members → Reading SaidSource
source_in path ms = do
  label ← label_at path (get_member (codes "index") ms)
  condition ← condition_at path (get_member (codes "marker") ms)
  extra ← asks_at path (get_member (codes "extra") ms)
  group ← asks_at path (get_member (codes "group") ms)
  Ok (record { source = record { label = label; condition = condition }; asks = extra || group })

-- ---- the sources of a name

-- a source of an array: a table
unfoldable pub source_at : ProjectPath → Data → Reading SaidSource
source_at path d = table_at path (Some d) >>= source_in path

-- the source of a table, as a list
abbrev pub one_source : ProjectPath → Members → Reading (List SaidSource)
one_source path ms = source_in path ms >>= λ source. Ok (source ∷ [])

-- values of which there are some
abbrev pub some_items : ProjectPath → List Data → Reading (List Data)
some_items path [] = Err (shape path)
some_items path (d ∷ ds) = Ok (d ∷ ds)

-- the values of an array that isn't empty
abbrev pub some_items_at : ProjectPath → Option Data → Reading (List Data)
some_items_at path value = items_at path value >>= some_items path

-- the sources of a name: a table, or an array of one or more
unfoldable pub sources_of : Profile → List ℕ → Option Data → Reading (List SaidSource)
sources_of profile name (Some (table ms)) = one_source (sources_path name) ms
sources_of profile name value = some_items_at (sources_path name) value >>= each_from (λ i d. source_at (sources_path name) d) 0

-- ---- all sources

-- the sources at the keys of a table, in byte order of these: its keys are names, and no two have one normal form
abbrev pub listed_sources : Profile → Members → Reading (List (Named (List SaidSource)))
listed_sources profile ms =
    if are_names [] ms then lists_in (shape (at_key key.Sources)) (sources_of profile) ms else Err (shape (at_key key.Sources))

-- the sources that a file says
unfoldable pub said_sources : Profile → Option Data → Reading (List (Named (List SaidSource)))
said_sources profile value = optional_table_at (at_key key.Sources) value >>= listed_sources profile

-- the sources of a name, where none is for an extra or a group alone, which isn't supported
abbrev pub supported : Named (List SaidSource) → Reading (Named (List SourceFields))
supported said =
    if list_any (λ s. s.asks) said.1 then Err (unsupported (sources_path said.0)) else Ok (said.0, map (λ s. s.source) said.1)

-- the sources of all names, in byte order of these; the first key whose sources aren't supported answers
unfoldable pub all_supported : List (Named (List SaidSource)) → Reading (List (Named (List SourceFields)))
all_supported said = each_from (λ i s. supported s) 0 said >>= λ sources. Ok (by_name sources)

-- the sources of other names than the project's own, of which no release is looked for
abbrev pub of_others : List ℕ → List (Named (List SourceFields)) → List (Named (List SourceFields))
of_others own sources = filter (λ s. not (bytes_eq s.0 own)) sources
