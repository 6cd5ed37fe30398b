-- Lists, their beginnings, and lists of logs.
use Rattle.std.proofs.Common.{◌≡◌, ℕ, zero, suc, ◌<◌, ◌≤◌, List, [], ◌∷◌, ◌++◌, length, map, set, replicate, Some, None, sym, refl, ap, ◌∙◌, subst, ◌⊎◌, inl, inr, ⊎_elim, arith, append_assoc, append-nil, get_or-set_same, get_or-set_other}
use Rattle.std.specs.List.{slice_get}
use mathlib.Core.Logic.{dite}
use native.Mathlib.Decide.{ℕ_discrete}
use Rattle.ul_interner.specs.Logs.{at, Begins, AllBegin}

pub some_is : {A : Type 0} (a b : A) → Some a ≡ Some b → a ≡ b
some_is a b e = cc

pub some_not : {A : Type 0} (a : A) → Some a ≡ None → ⊥
some_not a e = cc

module _ {A : Type 0} where
  pub heads : (a b : A) (l m : List A) → a ∷ l ≡ b ∷ m → a ≡ b
  heads a b l m e = cc

  pub tails : (a b : A) (l m : List A) → a ∷ l ≡ b ∷ m → l ≡ m
  tails a b l m e = cc

  pub none_got : (i : ℕ) (y : A) → slice_get [] i ≡ Some y → ⊥
  none_got zero y e = some_not y (sym e)
  none_got (suc i) y e = some_not y (sym e)

  pub begins_refl : (xs : List A) → Begins xs xs
  begins_refl xs = ([], sym (append-nil xs))

  pub begins_more : (xs ys zs : List A) → Begins xs ys → Begins xs (ys ++ zs)
  begins_more xs ys zs b = (b.0 ++ zs, ap (λ l. l ++ zs) b.1 ∙ append_assoc xs b.0 zs)

  pub begins_trans : (xs ys zs : List A) → Begins xs ys → Begins ys zs → Begins xs zs
  begins_trans xs ys zs a b = subst (Begins xs) (sym b.1) (begins_more xs ys b.0 a)

  pub begins_nothing : (xs ys : List A) → xs ≡ [] → Begins xs ys
  begins_nothing xs ys e = (ys, ap (λ z. z ++ ys) (sym e))

  -- of two beginnings of one list the shorter begins the longer
  pub shorter : (xs ys zs : List A) → Begins xs zs → Begins ys zs → length xs ≤ length ys → Begins xs ys
  shorter [] ys zs a b le = (ys, refl)
  shorter (x ∷ xs) [] zs a b le = absurd (omega arith)
  shorter (x ∷ xs) (y ∷ ys) [] a b le = absurd (let e = a.1 in cc)
  shorter (x ∷ xs) (y ∷ ys) (z ∷ zs) a b le =
      let ex = a.1 in let ey = b.1 in
      let hx : z ≡ x = cc in let hy : z ≡ y = cc in
      let tx : zs ≡ xs ++ a.0 = cc in let ty : zs ≡ ys ++ b.0 = cc in
      let r = shorter xs ys zs (a.0, tx) (b.0, ty) (omega arith) in
      (r.0, λ i. (sym hy ∙ hx) i ∷ r.1 i)

  pub got_begins : (xs ys : List A) (i : ℕ) (y : A) → Begins xs ys → slice_get xs i ≡ Some y → slice_get ys i ≡ Some y
  got_begins xs ys i y b e = subst (λ z. slice_get z i ≡ Some y) (sym b.1) (on xs b.0 i y e)
    where
      on : (xs rest : List A) (i : ℕ) (y : A) → slice_get xs i ≡ Some y → slice_get (xs ++ rest) i ≡ Some y
      on [] rest i y e = absurd (none_got i y e)
      on (x ∷ xs) rest zero y e = e
      on (x ∷ xs) rest (suc i) y e = on xs rest i y e

  -- an item of a list with one item more at its end
  pub got_snoc : (xs : List A) (x : A) (i : ℕ) (y : A) → slice_get (xs ++ x ∷ []) i ≡ Some y → (slice_get xs i ≡ Some y) ⊎ ((i ≡ length xs) × (x ≡ y))
  got_snoc [] x zero y e = inr (refl, some_is x y e)
  got_snoc [] x (suc i) y e = absurd (none_got i y e)
  got_snoc (z ∷ xs) x zero y e = inl e
  got_snoc (z ∷ xs) x (suc i) y e = ⊎_elim (λ p. inl p) (λ p. inr (omega (arith, p.0), p.1)) (got_snoc xs x i y e)

  pub got_last : (xs : List A) (x : A) (i : ℕ) → i ≡ length xs → slice_get (xs ++ x ∷ []) i ≡ Some x
  got_last [] x zero e = refl
  got_last [] x (suc i) e = absurd (omega arith)
  got_last (y ∷ xs) x zero e = absurd (omega arith)
  got_last (y ∷ xs) x (suc i) e = got_last xs x i (omega arith)

  pub got_below : (xs : List A) (i : ℕ) (y : A) → slice_get xs i ≡ Some y → i < length xs
  got_below [] i y e = absurd (none_got i y e)
  got_below (x ∷ xs) zero y e = omega arith
  got_below (x ∷ xs) (suc i) y e = omega (arith, got_below xs i y e)

  pub at_past : (xs : List (List A)) (k : ℕ) → length xs ≤ k → at xs k ≡ []
  at_past [] k le = refl
  at_past (x ∷ xs) zero le = absurd (omega arith)
  at_past (x ∷ xs) (suc k) le = at_past xs k (omega arith)

  pub at_empty : (n k : ℕ) → at {A = A} (replicate n []) k ≡ []
  at_empty zero k = refl
  at_empty (suc n) zero = refl
  at_empty (suc n) (suc k) = at_empty n k

  pub knows_refl : (xs : List (List A)) → AllBegin xs xs
  knows_refl xs k = begins_refl (at xs k)

  pub knows_trans : (xs ys zs : List (List A)) → AllBegin xs ys → AllBegin ys zs → AllBegin xs zs
  knows_trans xs ys zs a b k = begins_trans (at xs k) (at ys k) (at zs k) (a k) (b k)

  pub knows_nothing : (xs ys : List (List A)) → ((k : ℕ) → at xs k ≡ []) → AllBegin xs ys
  knows_nothing xs ys none k = begins_nothing (at xs k) (at ys k) (none k)

  -- one log of the list is longer
  pub knows_set : (xs : List (List A)) (k : ℕ) (log : List A) → k < length xs → Begins (at xs k) log → AllBegin xs (set xs k log)
  knows_set xs k log l b j = dite (ℕ_discrete j k)
      (λ is. subst (λ z. Begins (at xs z) (at (set xs k log) z)) (sym is) (subst (Begins (at xs k)) (sym (get_or-set_same xs k log [] l)) b))
      (λ no. subst (Begins (at xs j)) (sym (get_or-set_other xs k j log [] no)) (begins_refl (at xs j)))

  -- where the log that is set begins with what was seen, so does the list
  pub set_knows : (xs ys : List (List A)) (k : ℕ) (log : List A) → k < length xs → Begins log (at ys k) → AllBegin xs ys → AllBegin (set xs k log) ys
  set_knows xs ys k log l b all j = dite (ℕ_discrete j k)
      (λ is. subst (λ z. Begins (at (set xs k log) z) (at ys z)) (sym is) (subst (λ z. Begins z (at ys k)) (sym (get_or-set_same xs k log [] l)) b))
      (λ no. subst (λ z. Begins z (at ys j)) (sym (get_or-set_other xs k j log [] no)) (all j))

  pub get_map : {B : Type 0} (g : A → B) (xs : List A) (i : ℕ) (b : B) → slice_get (map g xs) i ≡ Some b → (a : A) × (slice_get xs i ≡ Some a) × (g a ≡ b)
  get_map g [] i b e = absurd (none_map i b e)
    where
      none_map : {B : Type 0} (i : ℕ) (b : B) → slice_get [] i ≡ Some b → ⊥
      none_map zero b e = some_not b (sym e)
      none_map (suc i) b e = some_not b (sym e)
  get_map g (x ∷ xs) zero b e = (x, refl, some_is (g x) b e)
  get_map g (x ∷ xs) (suc i) b e = get_map g xs i b e

  pub map_get : {B : Type 0} (g : A → B) (xs : List A) (i : ℕ) (a : A) → slice_get xs i ≡ Some a → slice_get (map g xs) i ≡ Some (g a)
  map_get g [] i a e = absurd (none_got i a e)
  map_get g (x ∷ xs) zero a e = ap (λ z. Some (g z)) (some_is x a e)
  map_get g (x ∷ xs) (suc i) a e = map_get g xs i a e

  pub at_map : {B : Type 0} (g : A → B) (xs : List (List A)) (k : ℕ) → at (map (map g) xs) k ≡ map g (at xs k)
  at_map g [] k = refl
  at_map g (x ∷ xs) zero = refl
  at_map g (x ∷ xs) (suc k) = at_map g xs k

  pub set_map : {B : Type 0} (g : A → B) (xs : List A) (k : ℕ) (x : A) → map g (set xs k x) ≡ set (map g xs) k (g x)
  set_map g [] k x = refl
  set_map g (y ∷ xs) zero x = refl
  set_map g (y ∷ xs) (suc k) x = ap (λ z. g y ∷ z) (set_map g xs k x)

  pub append_map : {B : Type 0} (g : A → B) (xs ys : List A) → map g (xs ++ ys) ≡ map g xs ++ map g ys
  append_map g [] ys = refl
  append_map g (x ∷ xs) ys = ap (λ z. g x ∷ z) (append_map g xs ys)

  pub length_map : {B : Type 0} (g : A → B) (xs : List A) → length (map g xs) ≡ length xs
  length_map g [] = refl
  length_map g (x ∷ xs) = ap suc (length_map g xs)
