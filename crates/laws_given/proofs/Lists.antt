-- Lists of which each element is such.
use Rattle.std.proofs.Common.{◌≡◌, ◌⊎◌, List, [], ◌∷◌, ◌++◌, subst, sym, arith, inl, inr}
use Rattle.std.specs.Prelude.{Contains}
use Rattle.std.specs.List.{AllByRecursion}
use Rattle.ul_base.proofs.ForCallers.{contains_cases}

-- each element is such, and so is one of them
pub all_at : {A : Type 0} (P : A → Type 0) (xs : List A) (x : A) → AllByRecursion P xs → Contains xs x → P x
all_at P [] x h at = absurd (omega (arith, at.1))
all_at P (y ∷ ys) x h at = by_cases (contains_cases y ys x at) (all_at P ys x h.1)
  where
    by_cases : (x ≡ y) ⊎ Contains ys x → (Contains ys x → P x) → P x
    by_cases (inl same) on = subst P (sym same) h.0
    by_cases (inr later) on = on later

-- elements that are such behind others that are
pub more : {A : Type 0} (P : A → Type 0) (xs ys : List A) → AllByRecursion P xs → AllByRecursion P ys
    → AllByRecursion P (xs ++ ys)
more P [] ys h k = k
more P (x ∷ xs) ys h k = (h.0, more P xs ys h.1 k)

-- each element of a list is such, where it is as soon as another thing is true of it
pub all_as : {A : Type 0} (P Q : A → Type 0) → ((x : A) → P x → Q x) → (xs : List A) → AllByRecursion P xs
    → AllByRecursion Q xs
all_as P Q weaker [] h = tt
all_as P Q weaker (x ∷ xs) h = (weaker x h.0, all_as P Q weaker xs h.1)
