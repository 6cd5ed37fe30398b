-- What stands in a JSON document.
use Rattle.std.specs.Prelude.{ℕ, List, Option, Some, None, is_some, if◌then◌else◌}
use Rattle.std.specs.Str.{is_utf8}
use Rattle.serde_json.specs.Data.{Data}
use Rattle.serde_json.specs.Find.{get, as_object, as_str}
use Rattle.serde_json.specs.Read.{read}
use Rattle.ul_version.specs.Reading.{◌>>=◌}

-- the value that the bytes are, where they are one
unfoldable pub json_of : List ℕ → Option Data
json_of bytes = if is_utf8 bytes then read bytes else None

-- a value that is an object
abbrev pub object_in : Data → Option Data
object_in d = if is_some (as_object d) then Some d else None

-- the object that the bytes are
abbrev pub object_of_bytes : List ℕ → Option Data
object_of_bytes bytes = json_of bytes >>= object_in

-- the text at a key. Only an object has something there.
abbrev pub text_at : List ℕ → Data → Option (List ℕ)
text_at key d = get key d >>= as_str
