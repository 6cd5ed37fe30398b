-- Loops that put an image of each element behind the others.
use Rattle.std.proofs.Common.{◌≡◌, ◌<◌, ◌+◌, ℕ, List, [], ◌∷◌, ◌++◌, length, get_or, map, take, sym, ap, ◌∙◌, Result, Ok, Err}
use Rattle.std.specs.Prelude.{IfOk}
use Rattle.std.specs.declared.alloc.AllocError.{AllocError}
use Rattle.std.proofs.lemmas.List.{map-append, map_more}
use Rattle.ul_base.proofs.ForCallers.{made_holds}

-- what holds of what was made holds of it where it was handed on
pub if_handed : {A : Type 0} (made r : Result A AllocError) (P : A → Type 0) → IfOk r (λ x. made ≡ Ok x) → IfOk made P → IfOk r P
if_handed made (Ok x) P e p = made_holds made x P e p
if_handed made (Err e) P q p = tt

-- what holds of what was made holds of what was handed on twice
pub twice_handed : {A : Type 0} (made between : Result A AllocError) (x : A) (P : A → Type 0) → between ≡ Ok x → IfOk between (λ y. made ≡ Ok y) → IfOk made P → P x
twice_handed made between x P e f p = made_holds made x P (made_holds between x (λ y. made ≡ Ok y) e f) p

-- what is equal to one thing where it was made is equal to another that equals it
pub made_equal : {A : Type 0} (r : Result A AllocError) (x y : A) → IfOk r (λ z. z ≡ x) → x ≡ y → IfOk r (λ z. z ≡ y)
made_equal (Ok z) x y h e = h ∙ e
made_equal (Err q) x y h e = tt

-- images of what was found are those of what was read
pub images_more : {A B C : Type 0} (f : A → C) (g : B → C) (done now : List A) (xs : List B) (i : ℕ) (a : A) (x : B) → now ≡ done ++ a ∷ [] → map f done ≡ map g (take i xs) → f a ≡ g x → i < length xs → x ≡ get_or xs i x
    → map f now ≡ map g (take (i + 1) xs)
images_more f g done now xs i a x e h same l at =
    ap (map f) e ∙ (map-append f done (a ∷ []) ∙ (ap (λ z. z ++ f a ∷ []) h ∙ (ap (λ z. map g (take i xs) ++ z ∷ []) (same ∙ ap g at) ∙ sym (map_more g xs i x l))))

-- the images of what was read
pub mapped_more : {A B : Type 0} (f : A → B) (xs : List A) (done now : List B) (i : ℕ) (x : A) (y : B) → now ≡ done ++ y ∷ [] → done ≡ map f (take i xs) → y ≡ f x → i < length xs → x ≡ get_or xs i x → now ≡ map f (take (i + 1) xs)
mapped_more f xs done now i x y e h same l at =
    e ∙ (ap (λ z. z ++ y ∷ []) h ∙ (ap (λ z. map f (take i xs) ++ z ∷ []) (same ∙ ap f at) ∙ sym (map_more f xs i x l)))
