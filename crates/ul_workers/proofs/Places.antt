-- Places that are filled, and results that are taken out of them.
use Rattle.std.proofs.Common.{◌≡◌, ◌≢◌, ℕ, zero, suc, ◌+◌, ◌<◌, ◌≤◌, ◌⊎◌, List, [], ◌∷◌, ◌++◌, length, All, Option, Some, None, get_or, set, replicate, take, drop, sym, refl, ap, ◌∙◌, subst, ⊎_elim, inl, inr, arith, length-append, length-set}
use Rattle.std.specs.Prelude.{Contains}
use Rattle.std.specs.List.{slice_get}
use Rattle.std.proofs.lemmas.Grind.{common_steps}
use Rattle.std.proofs.lemmas.Option.{slice_get_read}
use Rattle.std.proofs.lemmas.List.Elements.{Contains-push_cases}
use mathlib.Core.Logic.{dite}
use native.Mathlib.Decide.{ℕ_discrete}
use Rattle.ul_workers.specs.Work.{Filled, Good, Within, numbers}

got_set : {X : Type 0} (xs : List X) (i j : ℕ) (x y : X) → slice_get (set xs i x) j ≡ Some y → ((j ≡ i) × (x ≡ y)) ⊎ ((j ≢ i) × (slice_get xs j ≡ Some y))
got_set [] i j x y e = absurd (nothing_got j y e)
  where
    nothing_got : {X : Type 0} (i : ℕ) (y : X) → slice_get [] i ≡ Some y → ⊥
    nothing_got zero y e = cc
    nothing_got (suc i) y e = cc
got_set (z ∷ xs) zero zero x y e = inl (refl, cc)
got_set (z ∷ xs) zero (suc j) x y e = inr ((λ h. omega arith), e)
got_set (z ∷ xs) (suc i) zero x y e = inr ((λ h. omega arith), e)
got_set (z ∷ xs) (suc i) (suc j) x y e = ⊎_elim (λ t. inl (ap suc t.0, t.1)) (λ t. let n = t.0 in inr ((λ h. n (omega arith)), t.1)) (got_set xs i j x y e)

get_set : {X : Type 0} (xs : List X) (i : ℕ) (x : X) → i < length xs → slice_get (set xs i x) i ≡ Some x
get_set [] i x l = absurd (omega arith)
get_set (z ∷ xs) zero x l = refl
get_set (z ∷ xs) (suc i) x l = get_set xs i x (omega arith)

get_set_else : {X : Type 0} (xs : List X) (i j : ℕ) (x : X) → j ≢ i → slice_get (set xs i x) j ≡ slice_get xs j
get_set_else [] i j x n = refl
get_set_else (z ∷ xs) zero zero x n = absurd (n refl)
get_set_else (z ∷ xs) zero (suc j) x n = refl
get_set_else (z ∷ xs) (suc i) zero x n = refl
get_set_else (z ∷ xs) (suc i) (suc j) x n = get_set_else xs i j x (λ e. n (ap suc e))

-- what holds of all holds of all but the last, and of the last
pub last_of : {X : Type 0} (P : X → Type 0) (all rest : List X) (x : X) → all ≡ rest ++ x ∷ [] → All P all → All P rest × P x
last_of {X} P all rest x e a' = let a = subst (All P) e a' in (
  (λ k d l. subst P (left_at rest (x ∷ []) k d l) (a k d (omega (arith, length-append rest (x ∷ []), l)))),
  subst P (last_is rest) (a (length rest) x (omega (arith, length-append rest (x ∷ [])))),
)
  where
    last_is : (rest : List X) → get_or (rest ++ x ∷ []) (length rest) x ≡ x
    last_is [] = refl
    last_is (y ∷ ys) = last_is ys

    left_at : (xs ys : List X) (k : ℕ) (d : X) → k < length xs → get_or (xs ++ ys) k d ≡ get_or xs k d
    left_at [] ys k d l = absurd (omega arith)
    left_at (x ∷ xs) ys zero d l = refl
    left_at (x ∷ xs) ys (suc k) d l = left_at xs ys k d (omega arith)

module _ {O : Type 0} where
  pub numbers_more : (xs : List (ℕ × O)) (n : ℕ) (o : O) → numbers (xs ++ (n, o) ∷ []) ≡ numbers xs ++ n ∷ []
  numbers_more [] n o = refl
  numbers_more (x ∷ xs) n o = ap (λ z. x.0 ∷ z) (numbers_more xs n o)

  some_some : (a b : O) → Some a ≡ Some b → a ≡ b
  some_some a b e = cc

  filled_set : (ps : List (Option O)) (n k : ℕ) (o : O) → n < length ps → Filled ps k → Filled (set ps n (Some o)) k
  filled_set ps n k o l f = dite (ℕ_discrete k n) (λ is. (o, subst (λ z. slice_get (set ps n (Some o)) z ≡ Some (Some o)) (sym is) (get_set ps n (Some o) l))) (λ no. (f.0, get_set_else ps n k (Some o) no ∙ f.1))

  filled_here : (ps : List (Option O)) (n : ℕ) (o : O) → n < length ps → Filled (set ps n (Some o)) n
  filled_here ps n o l = (o, get_set ps n (Some o) l)

  good_set : (fits : ℕ → O → Type 0) (known : O → Type 0) (ps : List (Option O)) (n : ℕ) (o : O) → Good fits known ps → fits n o × known o → Good fits known (set ps n (Some o))
  good_set fits known ps n o g f k x e = ⊎_elim (λ t. subst (λ (z : ℕ × O). fits z.0 z.1 × known z.1) (λ i. (sym t.0 i, some_some o x t.1 i)) f) (λ t. g k x t.1) (got_set ps n k (Some o) (Some x) e)

  -- a number of the results is the last one's, or one of the others'
  pending : (xs : List (ℕ × O)) (n k : ℕ) (o : O) → Contains (numbers (xs ++ (n, o) ∷ [])) k → Contains (numbers xs) k ⊎ (n ≡ k)
  pending xs n k o h = Contains-push_cases (numbers xs) n k (subst (λ z. Contains z k) (numbers_more xs n o) h)

  -- one more result is placed
  pub placed_more : (fits : ℕ → O → Type 0) (known : O → Type 0) (limit : ℕ) (first ps : List (Option O)) (all rs rest : List (ℕ × O)) (n : ℕ) (o : O)
      → rs ≡ rest ++ (n, o) ∷ [] → length ps ≡ limit → All (λ p. Within limit fits p.0 p.1 × known p.1) rs → Good fits known ps → ((k : ℕ) → Filled first k → Filled ps k)
      → ((k : ℕ) → Contains (numbers all) k → Filled ps k ⊎ Contains (numbers rs) k)
      → (length (set ps n (Some o)) ≡ limit) × All (λ p. Within limit fits p.0 p.1 × known p.1) rest × Good fits known (set ps n (Some o)) × ((k : ℕ) → Filled first k → Filled (set ps n (Some o)) k)
      × ((k : ℕ) → Contains (numbers all) k → Filled (set ps n (Some o)) k ⊎ Contains (numbers rest) k)
  placed_more fits known limit first ps all rs rest n o is len a g kept pend =
      let P : ℕ × O → Type 0 = λ p. Within limit fits p.0 p.1 × known p.1 in
      let both = last_of P rs rest (n, o) is a in
      let here : n < length ps = subst (λ z. n < z) (sym len) both.1.0.0 in (
        length-set ps n (Some o) ∙ len,
        both.0,
        good_set fits known ps n o g (both.1.0.1, both.1.1),
        (λ k f. filled_set ps n k o here (kept k f)),
        λ k h. ⊎_elim (λ f. inl (filled_set ps n k o here f))
            (λ p. ⊎_elim (λ q. inr q) (λ (e : n ≡ k). inl (subst (Filled (set ps n (Some o))) e (filled_here ps n o here))) (pending rest n k o (subst (λ z. Contains (numbers z) k) is p)))
            (pend k h),
      )

  got_more : (xs : List O) (x : O) (k : ℕ) (y : O) → slice_get (xs ++ x ∷ []) k ≡ Some y → (slice_get xs k ≡ Some y) ⊎ ((k ≡ length xs) × (x ≡ y))
  got_more [] x zero y e = inr (refl, some_some x y e)
  got_more [] x (suc k) y e = absurd (none_here k y e)
    where
      none_here : (k : ℕ) (y : O) → slice_get [] k ≡ Some y → ⊥
      none_here zero y e = cc
      none_here (suc k) y e = cc
  got_more (z ∷ xs) x zero y e = inl e
  got_more (z ∷ xs) x (suc k) y e = ⊎_elim (λ p. inl p) (λ p. inr (omega (arith, p.0), p.1)) (got_more xs x k y e)

  pub none_filled : (n k : ℕ) (o : O) → slice_get (replicate n None) k ≡ Some (Some o) → ⊥
  none_filled zero zero o e = cc
  none_filled zero (suc k) o e = cc
  none_filled (suc n) zero o e = cc
  none_filled (suc n) (suc k) o e = none_filled n k o e

  pub at_place : (ps first : List (Option O)) (i : ℕ) (x : Option O) → i < length ps → x ≡ get_or ps i x → slice_get ps i ≡ slice_get first i → slice_get first i ≡ Some x
  at_place ps first i x l v e = sym e ∙ slice_get_read ps (length ps) i x refl l v

  pub not_none : (first : List (Option O)) (i : ℕ) → slice_get first i ≡ Some None → Filled first i → ⊥
  not_none first i e f = let h = f.1 in let both : Some None ≡ Some (Some f.0) = sym e ∙ h in apart f.0 both
    where
      apart : (o : O) → Some None ≡ Some (Some o) → ⊥
      apart o e = cc

  pub unwrapped : (first ps : List (Option O)) (rs : List O) (i : ℕ) (o : O) → length rs ≡ i → slice_get first i ≡ Some (Some o) → ((k : ℕ) (x : O) → slice_get rs k ≡ Some x → slice_get first k ≡ Some (Some x))
      → (k : ℕ) (x : O) → slice_get (rs ++ o ∷ []) k ≡ Some x → slice_get first k ≡ Some (Some x)
  unwrapped first ps rs i o len here each k x e = ⊎_elim (λ p. each k x p) (λ p. subst (λ z. slice_get first z ≡ Some (Some x)) (sym (p.0 ∙ len)) (here ∙ ap (λ z. Some (Some z)) p.1)) (got_more rs o k x e)

  pub later : (first ps : List (Option O)) (i : ℕ) (y : Option O) → ((k : ℕ) → i ≤ k → slice_get ps k ≡ slice_get first k) → (k : ℕ) → i + 1 ≤ k → slice_get (set ps i y) k ≡ slice_get first k
  later first ps i y same k le = get_set_else ps i k y (λ e. omega arith) ∙ same k (omega arith)

pub written : {X : Type 0} (new old : List X) (n : ℕ) → n ≡ length old → length new ≡ length old → take n (new ++ drop (length new) old) ≡ new
written new old n e f = grind (arith, common_steps)
