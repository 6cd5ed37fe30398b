-- What stands in a TOML document.
use Rattle.std.specs.Prelude.{ℕ, List, [], ◌∷◌, Bool, true, false, Option, Some, None, if◌then◌else◌}
use Rattle.std.specs.Str.{is_utf8}
use Rattle.toml.specs.Data.{Data, array, table, Items, no_items, item, Members, no_members}
use Rattle.toml.specs.Parse.{parse_document}

-- the document that the bytes are, where `toml` reads them
unfoldable pub toml_of : List ℕ → Option Members
toml_of bytes = if is_utf8 bytes then parse_document bytes else None

-- the items of an array as a list
abbrev pub items_list : Items → List Data
items_list no_items = []
items_list (item d ds) = d ∷ items_list ds

-- nothing, an empty array or an empty table
abbrev pub says_nothing : Option Data → Bool
says_nothing None = true
says_nothing (Some (array no_items)) = true
says_nothing (Some (table no_members)) = true
says_nothing (Some other) = false
