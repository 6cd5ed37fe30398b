-- The name, the version and the interpreters of a project (PEP 621).
use Rattle.std.specs.Prelude.{ℕ, List, [], ◌||◌, codes, Bool, true, false, Option, Ok, Err, if◌then◌else◌}
use Rattle.std.specs.List.{list_all, list_any}
use Rattle.std.specs.Str.{bytes_eq}
use Rattle.toml.specs.Data.{Data, string, Members, get_member}
use Rattle.ul_base.specs.Names.{name_of}
use Rattle.ul_version.specs.Fields.{Fields}
use Rattle.ul_version.specs.Reading.{version_of}
use Rattle.ul_specifier.specs.Clauses.{ClauseFields}
use Rattle.ul_specifier.specs.Reading.{specifiers_of}
use Rattle.ul_project.specs.Results.{◌>>=◌, or_fault}
use Rattle.ul_project.specs.Shapes.{Reading, at_key, optional_items_at, shape, text_at, text_or, unsupported}
use Rattle.ul_project.specs.declared.path.ProjectKey.TheVariants as key

-- the project's name, which must be there
unfoldable pub name_at : Option Data → Reading (List ℕ)
name_at value = text_at (at_key key.Name) value >>= λ text. or_fault (shape (at_key key.Name)) (name_of text)

-- the project's version; where there is none, `0`
unfoldable pub version_at : Option Data → Reading Fields
version_at value = text_or (codes "0") (at_key key.Version) value >>= λ text. or_fault (shape (at_key key.Version)) (version_of text)

-- a field whose value a build would have to find, though it is needed here
abbrev pub is_needed_field : List ℕ → Bool
is_needed_field field = bytes_eq field (codes "dependencies") || (bytes_eq field (codes "optional-dependencies") || bytes_eq field (codes "requires-python"))

-- a text
abbrev pub is_text : Data → Bool
is_text (string field) = true
is_text other = false

-- a text that is such a field
abbrev pub names_needed : Data → Bool
names_needed (string field) = is_needed_field field
names_needed other = false

-- the fields that are left to a build are texts, and none of them is needed
abbrev pub dynamic_of : List Data → Reading (Unit {0})
dynamic_of fields =
    if list_all is_text fields then (if list_any names_needed fields then Err (unsupported (at_key key.Dynamic)) else Ok tt)
    else Err (shape (at_key key.Dynamic))

-- the fields that are left to a build: an array of texts, none of which is needed
unfoldable pub dynamic_at : Option Data → Reading (Unit {0})
dynamic_at value = optional_items_at (at_key key.Dynamic) value >>= dynamic_of

-- the interpreters that the project asks for; where nothing is said, all
unfoldable pub python_at : Option Data → Reading (List ClauseFields)
python_at value =
    text_or [] (at_key key.RequiresPython) value >>= λ text. or_fault (shape (at_key key.RequiresPython)) (specifiers_of text)

-- the interpreters that `project` asks for, where no field that is needed is left to a build
abbrev pub python_in : Members → Reading (List ClauseFields)
python_in project =
    dynamic_at (get_member (codes "dynamic") project) >>= λ _. python_at (get_member (codes "requires-python") project)

-- the name, the version and the interpreters
pub record HeadFields : Type 0 where
  pub name : List ℕ
  pub version : Fields
  pub python : List ClauseFields

-- what `project` says of them, in the order of the checks
unfoldable pub head_in : Members → Reading HeadFields
head_in project = do
  name ← name_at (get_member (codes "name") project)
  version ← version_at (get_member (codes "version") project)
  _ ← dynamic_at (get_member (codes "dynamic") project)
  python ← python_at (get_member (codes "requires-python") project)
  Ok (record { name = name; version = version; python = python })
