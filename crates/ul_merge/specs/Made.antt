-- Lists that are made element by element.
use Rattle.std.specs.Prelude.{◌≡◌, List, [], ◌∷◌, ◌++◌, Option, Some, None}

-- one element, or none
abbrev pub at_most_one : {B : Type 0} → Option B → List B
at_most_one None = []
at_most_one (Some b) = b ∷ []

-- each element of the first list makes one of the second, or none, in order
abbrev pub AreMade : {A B : Type 0} → (A → Option B → Type 0) → List A → List B → Type 0
AreMade Makes [] bs = bs ≡ []
AreMade {B = B} Makes (x ∷ xs) bs = (o : Option B) × (rest : List B) × Makes x o × (bs ≡ at_most_one o ++ rest) × AreMade Makes xs rest
