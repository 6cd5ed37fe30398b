-- The words of the program's arguments.
use Rattle.std.specs.Prelude.{ℕ, List, [], map, drop, String, string_bytes, Result, Ok, Err}
use Rattle.std.specs.declared.alloc.Global.{Global}
use Rattle.std.specs.declared.io.Error.{Error}

-- all arguments but the first, which is the program's name; none where one of them is no text
abbrev pub given_words : {T : Type 0} → (T → List (String Global)) → Result T Error → List (List ℕ)
given_words items (Ok arguments) = map string_bytes (drop 1 (items arguments))
given_words items (Err _) = []
