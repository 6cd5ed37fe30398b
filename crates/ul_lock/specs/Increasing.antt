-- Lists in order.
use Rattle.std.specs.Prelude.{◌≡◌, List, [], ◌∷◌, Bool, true}

-- x is less than the first of xs
abbrev pub Before : {A : Type 0} → (A → A → Bool) → A → List A → Type 0
Before less x [] = Unit {0}
Before less x (y ∷ ys) = less x y ≡ true

-- strictly increasing
abbrev pub Rising : {A : Type 0} → (A → A → Bool) → List A → Type 0
Rising less [] = Unit {0}
Rising less (x ∷ xs) = Before less x xs × Rising less xs

-- none, or two or more
abbrev pub NoneOrSeveral : {A : Type 0} → List A → Type 0
NoneOrSeveral [] = Unit {0}
NoneOrSeveral (x ∷ []) = ⊥
NoneOrSeveral (x ∷ y ∷ xs) = Unit {0}
