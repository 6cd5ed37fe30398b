-- Why an input is refused, as far as the files' contents say it.
use Rattle.std.specs.Prelude.{ℕ, List}

-- A file has no reading, with the place in it; a count is above its limit, with the limit's name and number.
pub data Refused : Type 0 where
  malformed : List ℕ → List ℕ → Refused
  limit : List ℕ → ℕ → Refused
