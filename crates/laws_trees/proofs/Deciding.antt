-- What is decided of truths, of statements that are made of others, of lists, and of the numbers below one.
use Rattle.std.proofs.Common.{◌≡◌, ◌⊎◌, ◌<◌, ℕ, zero, suc, List, [], ◌∷◌, Bool, true, false, Contains, refl, sym, subst}
use Rattle.std.proofs.Common.{inl, inr, arith}
use Rattle.std.proofs.lemmas.Bool.{cases_eq, true≢false}
use Rattle.ul_base.proofs.ForCallers.{contains_cases, contains_first, contains_later, none_in}
use Rattle.laws_trees.specs.Decided.{Decided}

-- ---- truths, and statements made of others

pub truth_decided : (b : Bool) → Decided (b ≡ true)
truth_decided true = inl refl
truth_decided false = inr (λ e. true≢false (sym e))

pub both_decided : {A B : Type 0} → Decided A → Decided B → Decided (A × B)
both_decided (inl a) (inl b) = inl (a, b)
both_decided (inl a) (inr z) = inr (λ h. z h.1)
both_decided (inr z) d = inr (λ h. z h.0)

pub either_decided : {A B : Type 0} → Decided A → Decided B → Decided (A ⊎ B)
either_decided (inl a) d = inl (inl a)
either_decided (inr y) (inl b) = inl (inr b)
either_decided (inr y) (inr z) = inr (λ h. elim h [ inl a ↦ y a | inr b ↦ z b ])

pub not_decided : {A : Type 0} → Decided A → Decided (A → ⊥)
not_decided (inl a) = inr (λ z. z a)
not_decided (inr z) = inl z

-- a statement that holds exactly where one does that is decided
pub decided_as : {A B : Type 0} → Decided A → (A → B) → (B → A) → Decided B
decided_as (inl a) there back = inl (there a)
decided_as (inr z) there back = inr (λ b. z (back b))

-- ---- lists

-- each element of a list is such, or something else holds
pub each_of : {A : Type 0} (P : A → Type 0) (R : Type 0) (xs : List A) → ((x : A) → Contains xs x → P x ⊎ R)
    → ((x : A) → Contains xs x → P x) ⊎ R
each_of P R [] d = inl (λ x i. absurd (none_in x i))
each_of {A} P R (y ∷ ys) d =
    step (d y (contains_first y ys)) (each_of P R ys (λ x i. d x (contains_later y ys x i)))
  where
    step : P y ⊎ R → ((x : A) → Contains ys x → P x) ⊎ R → ((x : A) → Contains (y ∷ ys) x → P x) ⊎ R
    step (inr r) more = inr r
    step (inl p) (inr r) = inr r
    step (inl p) (inl all) = inl (λ x i. elim (contains_cases y ys x i) [
      | inl e ↦ subst P (sym e) p
      | inr j ↦ all x j
    ])

-- whether each element of a list is such, where that is decided of each
pub each_member : {A : Type 0} (P : A → Type 0) (xs : List A) → ((x : A) → Contains xs x → Decided (P x))
    → Decided ((x : A) → Contains xs x → P x)
each_member {A} P xs d =
    each_of P (((x : A) → Contains xs x → P x) → ⊥) xs
    (λ x i. elim (d x i) [ inl p ↦ inl p | inr z ↦ inr (λ h. z (h x i)) ])

-- whether some element of a list is such
pub some_member : {A : Type 0} (P : A → Type 0) (xs : List A) → ((x : A) → Contains xs x → Decided (P x))
    → Decided ((x : A) × Contains xs x × P x)
some_member {A} P xs d =
    elim (each_of (λ (x : A). P x → ⊥) ((x : A) × Contains xs x × P x) xs
    (λ x i. elim (d x i) [ inl p ↦ inr (x, i, p) | inr z ↦ inl z ])) [
      | inl none ↦ inr (λ h. none h.0 h.1 h.2)
      | inr found ↦ inl found
    ]

-- whether a list has an element, where it is decided which are equal to it
pub member_decided : {A : Type 0} (xs : List A) (x : A) → ((y : A) → Decided (y ≡ x)) → Decided (Contains xs x)
member_decided {A} xs x d =
    decided_as (some_member (λ (y : A). y ≡ x) xs (λ y i. d y)) (λ h. subst (Contains xs) h.2 h.1) (λ i. (x, i, refl))

-- ---- the numbers below one

-- each number below one is such, or something else holds
pub each_below : (P : ℕ → Type 0) (R : Type 0) (n : ℕ) → ((k : ℕ) → k < n → P k ⊎ R) → ((k : ℕ) → k < n → P k) ⊎ R
each_below P R zero d = inl (λ k h. absurd (omega arith))
each_below P R (suc n) d = step (d n (omega arith)) (each_below P R n (λ k l. d k (omega arith)))
  where
    step : P n ⊎ R → ((k : ℕ) → k < n → P k) ⊎ R → ((k : ℕ) → k < suc n → P k) ⊎ R
    step (inr r) more = inr r
    step (inl p) (inr r) = inr r
    step (inl p) (inl all) =
        inl (λ k l. elim (cases_eq k n) [ inl e ↦ subst P (sym e) p | inr other ↦ all k (omega arith) ])

-- whether each number below one is such
pub all_below : (P : ℕ → Type 0) → ((k : ℕ) → Decided (P k)) → (n : ℕ) → Decided ((k : ℕ) → k < n → P k)
all_below P d n =
    each_below P (((k : ℕ) → k < n → P k) → ⊥) n (λ k l. elim (d k) [ inl p ↦ inl p | inr z ↦ inr (λ h. z (h k l)) ])
