-- What is kept is determined, and is what a test keeps that decides it.
use Rattle.std.proofs.Common.{◌≡◌, ℕ, zero, suc, ◌+◌, ◌<◌, ◌≤◌, List, [], ◌∷◌, map, take, length, get_or, filter, cond, Bool, true, false, Decides, refl, sym, ap, ◌∙◌, subst, inl, inr, arith}
use Rattle.std.specs.Prelude.{All, Contains}
use Rattle.std.proofs.lemmas.List.{take_all}
use Rattle.std.proofs.lemmas.List.Elements.{All-head, All-tail, All-more, All-contains}
use Rattle.ul_base.specs.Kept.{Kept, IsFirst}
use Rattle.ul_base.proofs.Lists.{contains_first, contains_later}
use Rattle.ul_base.proofs.Members.{contains_from_map}

-- what is kept is determined
pub kept_once : {A : Type 0} (P : A → Type 0) (xs ys zs : List A) → Kept P xs ys → Kept P xs zs → ys ≡ zs
kept_once P [] ys zs h k = h ∙ sym k
kept_once P (x ∷ xs) ys zs (inl h) (inl k) = h.is ∙ ap (λ r. x ∷ r) (kept_once P xs h.rest k.rest h.more k.more) ∙ sym k.is
kept_once P (x ∷ xs) ys zs (inl h) (inr k) = absurd (k.fails h.holds)
kept_once P (x ∷ xs) ys zs (inr h) (inl k) = absurd (h.fails k.holds)
kept_once P (x ∷ xs) ys zs (inr h) (inr k) = kept_once P xs ys zs h.more k.more

-- the first element is determined
pub first_once : {A : Type 0} (P : A → Type 0) (xs : List A) (x y : A) → IsFirst P xs x → IsFirst P xs y → x ≡ y
first_once P [] x y h k = absurd h
first_once P (z ∷ zs) x y (inl h) (inl k) = h.is ∙ sym k.is
first_once P (z ∷ zs) x y (inl h) (inr k) = absurd (k.fails h.holds)
first_once P (z ∷ zs) x y (inr h) (inl k) = absurd (h.fails k.holds)
first_once P (z ∷ zs) x y (inr h) (inr k) = first_once P zs x y h.more k.more

-- P holds at the first element
pub first_holds : {A : Type 0} (P : A → Type 0) (xs : List A) (x : A) → IsFirst P xs x → P x
first_holds P [] x h = absurd h
first_holds P (z ∷ zs) x (inl h) = subst P (sym h.is) h.holds
first_holds P (z ∷ zs) x (inr h) = first_holds P zs x h.more

-- one more element, by the test's answer
kept_next : {A : Type 0} (P : A → Type 0) (x : A) (xs ys : List A) (b : Bool) → Decides b (P x) → Kept P xs ys → Kept P (x ∷ xs) (cond b (x ∷ ys) ys)
kept_next P x xs ys true d h = inl (record { holds = d.0 refl; rest = ys; is = refl; more = h })
kept_next P x xs ys false d h = inr (record { fails = λ p. cc (d.1 p); more = h })

-- a test that decides P keeps by `filter` what P keeps
pub kept_by : {A : Type 0} (P : A → Type 0) (test : A → Bool) (xs : List A) → ((x : A) → Contains xs x → Decides (test x) (P x)) → Kept P xs (filter test xs)
kept_by P test [] d = refl
kept_by P test (x ∷ xs) d = kept_next P x xs (filter test xs) (test x) (d x (contains_first x xs)) (kept_by P test xs (λ y h. d y (contains_later x xs y h)))

-- the first element stands in the list
pub first_in : {A : Type 0} (P : A → Type 0) (xs : List A) (x : A) → IsFirst P xs x → Contains xs x
first_in P [] x h = absurd h
first_in P (y ∷ ys) x (inl h) = subst (Contains (y ∷ ys)) (sym h.is) (contains_first y ys)
first_in P (y ∷ ys) x (inr h) = contains_later y ys x (first_in P ys x h.more)

-- ---- loops that look for the first

-- the first element, by its place
pub first_at : {A B : Type 0} (f : A → B) (P : B → Type 0) (xs : List A) (i : ℕ) (a : A) → i < length xs → a ≡ get_or xs i a → All (λ x. P (f x) → ⊥) (take i xs) → P (f a) → IsFirst P (map f xs) (f a)
first_at f P [] i a l e h p = absurd (omega (arith, l))
first_at f P (x ∷ xs) zero a l e h p = inl (record { holds = subst (λ y. P (f y)) e p; is = ap f e })
first_at f P (x ∷ xs) (suc i) a l e h p = inr (record { fails = All-head (λ y. P (f y) → ⊥) x (take i xs) h; more = first_at f P xs i a (omega (arith, l)) e (All-tail (λ y. P (f y) → ⊥) x (take i xs) h) p })

-- a loop that looks for the first: here it is, since each element before it fails
pub first_next : {A B : Type 0} (f : A → B) (P : B → Type 0) (xs ys : List A) (i : ℕ) (a : A) → ys ≡ xs → i < length ys → a ≡ get_or ys i a → All (λ x. P (f x) → ⊥) (take i xs) → P (f a) → IsFirst P (map f xs) (f a)
first_next f P xs ys i a same l e h p = first_at f P xs i a (subst (λ zs. i < length zs) same l) (subst (λ zs. a ≡ get_or zs i a) same e) h p

-- a loop that looks for the first: it is not here either
pub none_next : {A B : Type 0} (f : A → B) (P : B → Type 0) (xs : List A) (i : ℕ) (a : A) → i < length xs → a ≡ get_or xs i a → All (λ x. P (f x) → ⊥) (take i xs) → (P (f a) → ⊥) → All (λ x. P (f x) → ⊥) (take (i + 1) xs)
none_next f P xs i a l e h g = All-more (λ x. P (f x) → ⊥) xs i a l h (subst (λ x. P (f x) → ⊥) e g)

-- a loop that looks for the first: at its end there is none
pub none_at_all : {A B : Type 0} (f : A → B) (P : B → Type 0) (xs : List A) (i : ℕ) → length xs ≤ i → All (λ x. P (f x) → ⊥) (take i xs) → (b : B) → Contains (map f xs) b → P b → ⊥
none_at_all f P xs i l h b m p = let a = contains_from_map f xs b m in All-contains (λ x. P (f x) → ⊥) xs a.0 (subst (All (λ x. P (f x) → ⊥)) (take_all i xs l) h) a.1 (subst P a.2 p)
