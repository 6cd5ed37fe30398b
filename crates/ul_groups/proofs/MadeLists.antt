-- Lists that are made one by one of the elements of others.
use Rattle.std.proofs.Common.{◌≡◌, ◌∙◌, ℕ, ◌+◌, ◌<◌, ◌≤◌, ◌++◌, List, [], ◌∷◌, Result, length, get_or, map, take, ap, sym}
use Rattle.std.proofs.lemmas.List.{map_more, take_all, take_more}
use Rattle.std.specs.Prelude.{IfOk}
use Rattle.std.specs.declared.alloc.AllocError.{AllocError}
use Rattle.ul_base.proofs.ForCallers.{made_holds}
use Rattle.ul_base.specs.Owned.{HasOneMore}

-- one more was copied
pub copied_next : {X : Type 0} (xs before after : List X) (i : ℕ) (x : X) (made : Result X AllocError) → HasOneMore before made after
    → IfOk made (λ y. y ≡ x) → i < length xs → x ≡ get_or xs i x → before ≡ take i xs → after ≡ take (i + 1) xs
copied_next xs before after i x made h same lt is so_far =
    let one : h.0 ≡ get_or xs i x = made_holds made h.0 (λ y. y ≡ x) h.1 same ∙ is in
    h.2 ∙ (λ j. so_far j ++ one j ∷ []) ∙ sym (take_more xs i x lt)

-- one more was made of the next
pub made_next : {X Y : Type 0} (f : X → Y) (xs : List X) (before after : List Y) (i : ℕ) (x : X) (made : Result Y AllocError)
    → HasOneMore before made after → IfOk made (λ y. y ≡ f x) → i < length xs → x ≡ get_or xs i x → before ≡ map f (take i xs)
    → after ≡ map f (take (i + 1) xs)
made_next f xs before after i x made h same lt is so_far =
    let one : h.0 ≡ f (get_or xs i x) = made_holds made h.0 (λ y. y ≡ f x) h.1 same ∙ ap f is in
    h.2 ∙ (λ j. so_far j ++ one j ∷ []) ∙ sym (map_more f xs i x lt)

-- one was made of each
pub made_all : {X Y : Type 0} (f : X → Y) (xs : List X) (made : List Y) (i : ℕ) → length xs ≤ i → made ≡ map f (take i xs) → made ≡ map f xs
made_all f xs made i le so_far = so_far ∙ ap (map f) (take_all i xs le)
