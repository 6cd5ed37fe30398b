-- Places and parts of lists.
use Rattle.std.specs.Prelude.{◌==◌}
use Rattle.std.proofs.Common.{◌≡◌, ◌⊎◌, ◌<◌, ◌≤◌, ◌+◌, ◌-◌, ◌||◌, ℕ, zero, suc, List, [], ◌∷◌, ◌++◌, map, length, take, drop, get_or, length-drop, Bool, true, false, Some, None, Contains, refl, ap, subst, inl, inr, ⊎_elim, arith}
use Rattle.std.specs.List.{list_any, slice_get}
use Rattle.std.proofs.lemmas.Grind.{common_steps}
use Rattle.std.proofs.lemmas.List.{take_all}
use Rattle.std.proofs.lemmas.Option.{none-some, slice_get_read}
use Rattle.ul_base.proofs.ForCallers.{contains_first, contains_later}

-- a truth isn't the other one
pub clash : (b : Bool) → b ≡ false → b ≡ true → ⊥
clash true e f = cc
clash false e f = cc

-- one of two truths holds
pub one_is : (a b : Bool) → (a || b) ≡ true → (a ≡ true) ⊎ (b ≡ true)
one_is true b e = inl refl
one_is false b e = inr e

-- where some element passes, there is one
pub one_passing : {A : Type 0} (test : A → Bool) (xs : List A) → list_any test xs ≡ true → (x : A) × Contains xs x × (test x ≡ true)
one_passing test [] h = cc
one_passing test (y ∷ ys) h = ⊎_elim (λ e. (y, contains_first y ys, e)) (λ k. let z = one_passing test ys k in (z.0, contains_later y ys z.0 z.1, z.2)) (one_is (test y) (list_any test ys) h)

-- a list without an element
pub nil_by : {A : Type 0} (xs : List A) → (length xs == 0) ≡ true → xs ≡ []
nil_by [] e = refl
nil_by (x ∷ xs) e = absurd (grind (arith, common_steps))

-- ---- places

-- nothing stands past a list's end
pub none_past : {A : Type 0} (xs : List A) (k : ℕ) → length xs ≤ k → slice_get xs k ≡ None
none_past [] k h = refl
none_past (x ∷ xs) zero h = absurd (omega (arith, h))
none_past (x ∷ xs) (suc k) h = none_past xs k (omega (arith, h))

-- what is read at a place stands there
pub read_there : {A : Type 0} (xs : List A) (k : ℕ) (x : A) → k < length xs → x ≡ get_or xs k x → slice_get xs k ≡ Some x
read_there xs k x lt e = slice_get_read xs (length xs) k x refl lt e

-- something stands at each place of a list
pub some_at : {A : Type 0} (xs : List A) (k : ℕ) → k < length xs → (x : A) × (slice_get xs k ≡ Some x)
some_at [] k lt = absurd (omega (arith, lt))
some_at (x ∷ xs) zero lt = (x, refl)
some_at (x ∷ xs) (suc k) lt = some_at xs k (omega (arith, lt))

-- ---- lists in two parts

pub take_front : {A : Type 0} (xs ys : List A) → take (length xs) (xs ++ ys) ≡ xs
take_front [] ys = refl
take_front (x ∷ xs) ys = ap (λ zs. x ∷ zs) (take_front xs ys)

pub drop_front : {A : Type 0} (xs ys : List A) → drop (length xs) (xs ++ ys) ≡ ys
drop_front [] ys = refl
drop_front (x ∷ xs) ys = drop_front xs ys

pub map_take : {A B : Type 0} (f : A → B) (n : ℕ) (xs : List A) → map f (take n xs) ≡ take n (map f xs)
map_take f zero xs = refl
map_take f (suc n) [] = refl
map_take f (suc n) (x ∷ xs) = ap (λ ys. f x ∷ ys) (map_take f n xs)

pub map_drop : {A B : Type 0} (f : A → B) (n : ℕ) (xs : List A) → map f (drop n xs) ≡ drop n (map f xs)
map_drop f zero xs = refl
map_drop f (suc n) [] = refl
map_drop f (suc n) (x ∷ xs) = map_drop f n xs

pub front_length : {A : Type 0} (xs ys : List A) → length xs ≤ length (xs ++ ys)
front_length [] ys = omega arith
front_length (x ∷ xs) ys = omega (arith, front_length xs ys)

pub in_take : {A : Type 0} (n : ℕ) (xs : List A) (k : ℕ) (x : A) → slice_get (take n xs) k ≡ Some x → slice_get xs k ≡ Some x
in_take zero xs k x e = absurd (none-some x e)
in_take (suc n) [] k x e = absurd (none-some x e)
in_take (suc n) (y ∷ ys) zero x e = e
in_take (suc n) (y ∷ ys) (suc k) x e = in_take n ys k x e

moved : {A : Type 0} (xs : List A) (j k : ℕ) (x : A) → j ≡ k → slice_get xs j ≡ Some x → slice_get xs k ≡ Some x
moved xs j k x e h = subst (λ (n : ℕ). slice_get xs n ≡ Some x) e h

pub in_drop : {A : Type 0} (n : ℕ) (xs : List A) (k : ℕ) (x : A) → slice_get (drop n xs) k ≡ Some x → slice_get xs (n + k) ≡ Some x
in_drop zero xs k x e = moved xs k (0 + k) x (omega arith) e
in_drop (suc n) [] k x e = absurd (none-some x e)
in_drop (suc n) (y ∷ ys) k x e = moved (y ∷ ys) (suc (n + k)) (suc n + k) x (omega arith) (in_drop n ys k x e)

pub in_front : {A : Type 0} (xs ys : List A) (k : ℕ) (x : A) → slice_get xs k ≡ Some x → slice_get (xs ++ ys) k ≡ Some x
in_front [] ys k x e = absurd (none-some x e)
in_front (z ∷ zs) ys zero x e = e
in_front (z ∷ zs) ys (suc k) x e = in_front zs ys k x e

pub in_back : {A : Type 0} (xs ys : List A) (k : ℕ) (x : A) → slice_get ys k ≡ Some x → slice_get (xs ++ ys) (length xs + k) ≡ Some x
in_back [] ys k x e = moved ys k (0 + k) x (omega arith) e
in_back (z ∷ zs) ys k x e = moved (z ∷ zs ++ ys) (suc (length zs + k)) (suc (length zs) + k) x (omega arith) (in_back zs ys k x e)

-- what is left behind a place
pub left : {A : Type 0} (n : ℕ) (xs : List A) → take (length xs - n) (drop n xs) ≡ drop n xs
left n xs = take_all (length xs - n) (drop n xs) (omega (arith, length-drop n xs))

pub take_length : {A : Type 0} (j : ℕ) (xs : List A) → j ≤ length xs → length (take j xs) ≡ j
take_length zero xs h = refl
take_length (suc j) [] h = absurd (omega (arith, h))
take_length (suc j) (x ∷ xs) h = omega (arith, take_length j xs (omega (arith, h)))

pub drop_length : {A : Type 0} (j : ℕ) (xs : List A) → j ≤ length xs → j + length (drop j xs) ≡ length xs
drop_length zero xs h = omega arith
drop_length (suc j) [] h = absurd (omega (arith, h))
drop_length (suc j) (x ∷ xs) h = omega (arith, drop_length j xs (omega (arith, h)))

pub both_length : {A : Type 0} (xs ys : List A) → length (xs ++ ys) ≡ length xs + length ys
both_length [] ys = omega arith
both_length (x ∷ xs) ys = omega (arith, both_length xs ys)
