-- Lists by their places, and lists that agree place by place.
use Rattle.std.specs.Prelude.{All, slice_get}
use Rattle.std.proofs.Common.{◌≡◌, ◌<◌, ◌≤◌, ◌+◌, ◌⊎◌, inl, inr, ℕ, zero, suc, List, [], ◌∷◌, ◌++◌, length, get_or, map, take, Some, arith, refl, sym, ap, subst, ◌∙◌}
use Rattle.std.specs.List.{AllZip}
use Rattle.std.proofs.lemmas.Bool.{cases_lt}
use Rattle.std.proofs.lemmas.List.{take_more}
use Rattle.std.proofs.lemmas.List.Elements.{All-contains, All-cons, All-head, All-more, All-nil, All-tail, All-weaker}
use Rattle.std.proofs.lemmas.Option.{get_or_from_slice_get, none-some, same_Some, slice_get-get_or, slice_get_within}

-- a place below the next one
pub below_or : (k i : ℕ) → k < i + 1 → (k < i) ⊎ (i ≡ k)
below_or k i l = by_cases (cases_lt k i)
  where
    by_cases : (k < i) ⊎ (i ≤ k) → (k < i) ⊎ (i ≡ k)
    by_cases (inl a) = inl a
    by_cases (inr a) = inr (omega (arith, a, l))

-- something stands at each place of a list
pub item_there : {A : Type 0} (xs : List A) (k : ℕ) → k < length xs → (x : A) × (slice_get xs k ≡ Some x)
item_there [] k l = absurd (omega (arith, l))
item_there (z ∷ zs) zero l = (z, refl)
item_there (z ∷ zs) (suc k) l = item_there zs k (omega (arith, l))

-- what holds of each item holds of the one at a place
pub all_there : {A : Type 0} (P : A → Type 0) (xs : List A) (k : ℕ) (x : A) → All P xs → slice_get xs k ≡ Some x → P x
all_there P xs k x a e = All-contains P xs x a (k, slice_get_within xs k x e, get_or_from_slice_get xs k x x e)

-- and the other way round
pub there_all : {A : Type 0} (P : A → Type 0) (xs : List A) → ((k : ℕ) (x : A) → slice_get xs k ≡ Some x → P x) → All P xs
there_all P xs h k d l = h k (get_or xs k d) (slice_get-get_or xs k d l)

-- what holds of each image
pub all_of_map : {A B : Type 0} (P : B → Type 0) (f : A → B) (xs : List A) → All P (map f xs) → All (λ x. P (f x)) xs
all_of_map P f [] a = All-nil (λ x. P (f x))
all_of_map P f (x ∷ xs) a = All-cons (λ x. P (f x)) x xs (All-head P (f x) (map f xs) a) (all_of_map P f xs (All-tail P (f x) (map f xs) a))

-- one item more, where what held of the others is more
pub all_next : {A : Type 0} (P Q : A → Type 0) (xs : List A) (i : ℕ) (x : A) → ((y : A) → P y → Q y) → All P (take i xs) → Q x → i < length xs → x ≡ get_or xs i x → All Q (take (i + 1) xs)
all_next P Q xs i x into a q l at = All-more Q xs i x l (All-weaker P Q into (take i xs) a) (subst Q at q)

-- the image of what stands at a place
pub image_at : {A B : Type 0} (f : A → B) (xs : List A) (k : ℕ) (x : A) → slice_get xs k ≡ Some x → slice_get (map f xs) k ≡ Some (f x)
image_at f [] k x e = absurd (none-some x e)
image_at {A} f (z ∷ zs) zero x e = ap (λ (u : A). Some (f u)) (same_Some z x e)
image_at f (z ∷ zs) (suc k) x e = image_at f zs k x e

-- one of each more
pub zip_push : {A B : Type 0} (R : A → B → Type 0) (xs : List A) (ys : List B) (x : A) (y : B) → AllZip R xs ys → R x y → AllZip R (xs ++ x ∷ []) (ys ++ y ∷ [])
zip_push R [] [] x y h k = (k, tt)
zip_push R [] (b ∷ ys) x y h k = absurd h
zip_push R (a ∷ xs) [] x y h k = absurd h
zip_push R (a ∷ xs) (b ∷ ys) x y h k = (h.0, zip_push R xs ys x y h.1 k)

-- what stands at one place of both
pub zip_at : {A B : Type 0} (R : A → B → Type 0) (xs : List A) (ys : List B) (k : ℕ) (x : A) (y : B) → AllZip R xs ys → slice_get xs k ≡ Some x → slice_get ys k ≡ Some y → R x y
zip_at R [] ys k x y h d e = absurd (none-some x d)
zip_at R (a ∷ xs) [] k x y h d e = absurd h
zip_at {A} {B} R (a ∷ xs) (b ∷ ys) zero x y h d e = subst (λ (z : A). R z y) (same_Some a x d) (subst (λ (z : B). R a z) (same_Some b y e) h.0)
zip_at R (a ∷ xs) (b ∷ ys) (suc k) x y h d e = zip_at R xs ys k x y h.1 d e

-- what is made of the items of a list, one more, where what was made stands second
pub made_second : {A B : Type 0} (R : A → B → Type 0) (xs : List A) (done now : List B) (i : ℕ) (x : A) (y : B) → now ≡ done ++ y ∷ [] → AllZip R (take i xs) done → R x y → i < length xs → x ≡ get_or xs i x → AllZip R (take (i + 1) xs) now
made_second {A} {B} R xs done now i x y e h k l at = subst (λ (z : List B). AllZip R (take (i + 1) xs) z) (sym e)
    (subst (λ (z : List A). AllZip R z (done ++ y ∷ [])) (ap (λ (u : A). take i xs ++ u ∷ []) at ∙ sym (take_more xs i x l)) (zip_push R (take i xs) done x y h k))

-- the same where it stands first
pub made_first : {A B : Type 0} (R : B → A → Type 0) (xs : List A) (done now : List B) (i : ℕ) (x : A) (y : B) → now ≡ done ++ y ∷ [] → AllZip R done (take i xs) → R y x → i < length xs → x ≡ get_or xs i x → AllZip R now (take (i + 1) xs)
made_first {A} {B} R xs done now i x y e h k l at = subst (λ (z : List B). AllZip R z (take (i + 1) xs)) (sym e)
    (subst (λ (z : List A). AllZip R (done ++ y ∷ []) z) (ap (λ (u : A). take i xs ++ u ∷ []) at ∙ sym (take_more xs i x l)) (zip_push R done (take i xs) y x h k))
