-- The faults of a project file, and values of some shape.
use Rattle.std.specs.Prelude.{ℕ, List, [], Option, Some, None, Result, Ok, Err}
use Rattle.toml.specs.Data.{Data, string, array, table, Members, no_members}
use Rattle.ul_project.specs.Toml.{items_list}
use Rattle.ul_project.specs.declared.path.Place.TheVariants.{Key}
use Rattle.ul_project.specs.declared.path.ProjectKey.{ProjectKey}
use Rattle.ul_project.specs.declared.path.ProjectPath.{ProjectPath}
use Rattle.ul_project.specs.declared.path.ProjectPath.TheVariants.{Whole}

-- why bytes are no project
pub data Fault : Type 0 where
  not_toml : Fault
  shape : ProjectPath → Fault
  requirement_fault : ProjectPath → Fault
  unsupported : ProjectPath → Fault

-- what is read, or the first fault
abbrev pub Reading : Type 0 → Type 0
Reading A = Result A Fault

-- the value of a key
abbrev pub at_key : ProjectKey → ProjectPath
at_key key = Whole (Key key)

-- ---- values that must be there

-- a table
abbrev pub table_at : ProjectPath → Option Data → Reading Members
table_at path (Some (table ms)) = Ok ms
table_at path other = Err (shape path)

-- a text
abbrev pub text_at : ProjectPath → Option Data → Reading (List ℕ)
text_at path (Some (string s)) = Ok s
text_at path other = Err (shape path)

-- an array
abbrev pub items_at : ProjectPath → Option Data → Reading (List Data)
items_at path (Some (array items)) = Ok (items_list items)
items_at path other = Err (shape path)

-- ---- values that may be absent

-- a table; nothing is as the empty one
abbrev pub optional_table_at : ProjectPath → Option Data → Reading Members
optional_table_at path None = Ok no_members
optional_table_at path (Some value) = table_at path (Some value)

-- an array; nothing is as the empty one
abbrev pub optional_items_at : ProjectPath → Option Data → Reading (List Data)
optional_items_at path None = Ok []
optional_items_at path (Some value) = items_at path (Some value)

-- a text; nothing is as this one
abbrev pub text_or : List ℕ → ProjectPath → Option Data → Reading (List ℕ)
text_or absent path None = Ok absent
text_or absent path (Some value) = text_at path (Some value)
