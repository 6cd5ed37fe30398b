-- What a list has at which something holds, where no test is given.
use Rattle.std.specs.Prelude.{◌≡◌, ◌⊎◌, List, [], ◌∷◌}

-- ys are the elements of xs at which P holds, in order
abbrev pub Kept : {A : Type 0} → (A → Type 0) → List A → List A → Type 0
Kept P [] ys = ys ≡ []
Kept {A} P (x ∷ xs) ys =
    (record { holds : P x; rest : List A; is : ys ≡ x ∷ rest; more : Kept P xs rest })
    ⊎ (record { fails : ¬ P x; more : Kept P xs ys })

-- x is the first element at which P holds
abbrev pub IsFirst : {A : Type 0} → (A → Type 0) → List A → A → Type 0
IsFirst P [] x = ⊥
IsFirst P (y ∷ ys) x = (record { holds : P y; is : x ≡ y }) ⊎ (record { fails : ¬ P y; more : IsFirst P ys x })
