-- Sets of three versions, of the worked examples.
use Rattle.std.specs.Prelude.{List, [], ◌∷◌, Bool, true, false}

-- the first and the second
abbrev pub first_two : List Bool
first_two = true ∷ true ∷ false ∷ []

-- the second and the third
abbrev pub last_two : List Bool
last_two = false ∷ true ∷ true ∷ []

-- the first and the third
abbrev pub first_and_third : List Bool
first_and_third = true ∷ false ∷ true ∷ []

-- the first
abbrev pub first_alone : List Bool
first_alone = true ∷ false ∷ false ∷ []

-- the second
abbrev pub second_alone : List Bool
second_alone = false ∷ true ∷ false ∷ []

-- the third
abbrev pub third_alone : List Bool
third_alone = false ∷ false ∷ true ∷ []

-- all of them
abbrev pub all_three : List Bool
all_three = true ∷ true ∷ true ∷ []
