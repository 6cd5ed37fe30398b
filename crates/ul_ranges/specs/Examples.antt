-- Numbers of the worked examples.
use Rattle.std.specs.Prelude.{ℕ, ◌+◌, ◌*◌, ◌^◌, List, [], ◌∷◌}

-- where interpreter version 3.8 begins
abbrev pub from_3_8 : ℕ
from_3_8 = 3 * 2 ^ 64 + 8 * 2 ^ 32

-- where interpreter version 3.10 begins
abbrev pub from_3_10 : ℕ
from_3_10 = 3 * 2 ^ 64 + 10 * 2 ^ 32

-- the starts of the pieces before 3.8, before 3.10, and from 3.10 on
abbrev pub interpreters : List ℕ
interpreters = 0 ∷ from_3_8 ∷ from_3_10 ∷ []
