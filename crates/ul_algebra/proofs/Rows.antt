-- What all of a row have.
use Rattle.std.proofs.Common.{arith, ◌≡◌, suc, List, [], ◌∷◌, ◌++◌, get_or, sym, subst}
use Rattle.std.specs.List.{All}
use Rattle.std.proofs.lemmas.List.Elements.{All-push}

-- what follows for each follows for all
pub all_more : {A : Type 0} (P Q : A → Type 0) (xs : List A) → ((x : A) → P x → Q x) → All P xs → All Q xs
all_more P Q xs f h = λ k d m. f (get_or xs k d) (h k d m)

-- a fact of the first of a list, and of those after it
pub head_tail : {A : Type 0} (P : A → Type 0) (x : A) (left rest : List A) → left ≡ x ∷ rest → All P left → P x × All P rest
head_tail {A} P x left rest e h =
    let g = subst (λ (z : List A). All P z) e h in
    (g 0 x (omega arith), λ k d m. g (suc k) d (omega arith))

-- with one more
pub all_push : {A : Type 0} (P : A → Type 0) (xs ys : List A) (x : A) → ys ≡ xs ++ x ∷ [] → All P xs → P x → All P ys
all_push {A} P xs ys x e h p = subst (λ (z : List A). All P z) (sym e) (All-push P xs x h p)
