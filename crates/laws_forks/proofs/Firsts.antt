-- Of a list of which something is decided of each element, there is a first such element or there is none.
use Rattle.std.specs.Prelude.{Contains}
use Rattle.std.proofs.Common.{◌⊎◌, List, [], ◌∷◌, inl, inr, refl, subst, ⊎_elim}
use Rattle.ul_base.specs.Kept.{IsFirst}
use Rattle.ul_base.proofs.ForCallers.{contains_cases, contains_first, contains_later, none_in}
use Rattle.laws_trees.specs.Decided.{Decided}

-- there is a first element at which P holds, or P holds at none
abbrev pub FirstOrNone : {A : Type 0} → (A → Type 0) → List A → Type 0
FirstOrNone {A} P xs = ((x : A) × IsFirst P xs x) ⊎ ((x : A) → Contains xs x → P x → ⊥)

pub first_or_none : {A : Type 0} (P : A → Type 0) (xs : List A) → ((x : A) → Contains xs x → Decided (P x))
    → FirstOrNone P xs
first_or_none P [] d = inr (λ x m p. none_in x m)
first_or_none P (x ∷ xs) d =
    one (d x (contains_first x xs)) (first_or_none P xs (λ y m. d y (contains_later x xs y m)))
  where
    one : Decided (P x) → FirstOrNone P xs → FirstOrNone P (x ∷ xs)
    one (inl p) rest = inl (x, inl (record { holds = p; is = refl }))
    one (inr n) (inl f) = inl (f.0, inr (record { fails = n; more = f.1 }))
    one (inr n) (inr none) =
        inr (λ y m p. ⊎_elim (λ e. n (subst P e p)) (λ r. none y r p) (contains_cases x xs y m))
