-- Lists that increase.
use Rattle.std.specs.Prelude.{List, [], ◌∷◌}

-- the first element of a list comes after this one, and each element is related to the next
abbrev pub IncreasesFrom : {A : Type 0} → (A → A → Type 0) → A → List A → Type 0
IncreasesFrom {A} R x [] = Unit {0}
IncreasesFrom {A} R x (y ∷ ys) = R x y × IncreasesFrom R y ys

-- each element of a list is related to the next
abbrev pub Increases : {A : Type 0} → (A → A → Type 0) → List A → Type 0
Increases {A} R [] = Unit {0}
Increases {A} R (x ∷ xs) = IncreasesFrom R x xs
