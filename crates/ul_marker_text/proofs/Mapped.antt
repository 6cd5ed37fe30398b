-- Loops that map a row: one element on.
use Rattle.std.proofs.Common.{◌≡◌, ◌∙◌, ℕ, ◌+◌, ◌<◌, ◌++◌, ◌∷◌, [], List, length, get_or, take, map, ap, sym}
use Rattle.std.proofs.lemmas.List.{map_more, map_push}

-- what is made of the elements so far, and of one more
pub mapped_next : {A B C : Type 0} (before after : List A) (xs : List B) (i : ℕ) (x : B) (y : A) (f : A → C) (g : B → C) → after ≡ before ++ y ∷ [] → f y ≡ g x → i < length xs → x ≡ get_or xs i x →
    map f before ≡ map g (take i xs) → map f after ≡ map g (take (i + 1) xs)
mapped_next before after xs i x y f g made same l at so_far =
    ap (map f) made ∙ map_push f before y ∙ (λ j. so_far j ++ (same ∙ ap g at) j ∷ []) ∙ sym (map_more g xs i x l)

-- the same, where the elements are mapped twice
pub mapped_twice_next : {A B C D : Type 0} (before after : List A) (xs : List B) (i : ℕ) (x : B) (y : A) (f : A → D) (g : B → C) (h : C → D) → after ≡ before ++ y ∷ [] → f y ≡ h (g x) → i < length xs → x ≡ get_or xs i x →
    map f before ≡ map h (map g (take i xs)) → map f after ≡ map h (map g (take (i + 1) xs))
mapped_twice_next before after xs i x y f g h made same l at so_far =
    ap (map f) made ∙ map_push f before y ∙ (λ j. so_far j ++ (same ∙ ap (λ z. h (g z)) at) j ∷ [])
    ∙ sym (ap (map h) (map_more g xs i x l) ∙ map_push h (map g (take i xs)) (g (get_or xs i x)))
