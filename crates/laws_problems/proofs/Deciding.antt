-- What a list keeps, and flags of its elements, where it is decided of each.
use Rattle.std.proofs.Common.{◌≡◌, ℕ, zero, suc, List, [], ◌∷◌, length, not, Bool, true, false, Decides, Some, refl, sym, ap, subst, inl, inr}
use Rattle.std.specs.Prelude.{Contains, slice_get}
use Rattle.std.proofs.lemmas.Bool.{true≢false}
use Rattle.std.proofs.lemmas.Option.{none-some, same_Some}
use Rattle.ul_base.specs.Kept.{Kept}
use Rattle.ul_base.proofs.ForCallers.{contains_first, contains_later}
use Rattle.ul_ranges.specs.Flags.{has}
use Rattle.laws_trees.specs.Decided.{Decided}

-- some element of a list is such
abbrev pub HasSome : {A : Type 0} → (A → Type 0) → List A → Type 0
HasSome {A} P xs = (x : A) × Contains xs x × P x

-- what a list keeps
pub kept_exists : {A : Type 0} (P : A → Type 0) (xs : List A) → ((x : A) → Contains xs x → Decided (P x))
    → (ys : List A) × Kept P xs ys
kept_exists P [] d = ([], refl)
kept_exists {A} P (x ∷ xs) d = step (d x (contains_first x xs))
    (kept_exists P xs (λ y m. d y (contains_later x xs y m)))
  where
    step : Decided (P x) → ((ys : List A) × Kept P xs ys) → (ys : List A) × Kept P (x ∷ xs) ys
    step (inl p) r = (x ∷ r.0, inl (record { holds = p; rest = r.0; is = refl; more = r.1 }))
    step (inr z) r = (r.0, inr (record { fails = z; more = r.1 }))

-- ---- flags

-- flags, of which one is set where it doesn't hold of the element at its place
pub record AreFlagsOf {A : Type 0} (P : A → Type 0) (xs : List A) (flags : List Bool) : Type 0 where
  pub size : length flags ≡ length xs
  pub each : (k : ℕ) (x : A) → slice_get xs k ≡ Some x → Decides (not (has k flags)) (P x)

more_flags : {A : Type 0} (P : A → Type 0) (y : A) (ys : List A) (b : Bool) (flags : List Bool) → Decides (not b) (P y)
    → AreFlagsOf P ys flags → AreFlagsOf P (y ∷ ys) (b ∷ flags)
more_flags {A} P y ys b flags d r = record { size = ap suc r.size; each = each }
  where
    each : (k : ℕ) (x : A) → slice_get (y ∷ ys) k ≡ Some x → Decides (not (has k (b ∷ flags))) (P x)
    each zero x e = subst (λ (z : A). Decides (not b) (P z)) (same_Some y x e) d
    each (suc k) x e = r.each k x e

-- there are such flags
pub flags_exist : {A : Type 0} (P : A → Type 0) (xs : List A) → ((x : A) → Contains xs x → Decided (P x))
    → (flags : List Bool) × AreFlagsOf P xs flags
flags_exist P [] d = ([], record { size = refl; each = λ k x e. absurd (none-some x e) })
flags_exist {A} P (y ∷ ys) d = step (d y (contains_first y ys))
    (flags_exist P ys (λ x m. d x (contains_later y ys x m)))
  where
    step : Decided (P y) → ((flags : List Bool) × AreFlagsOf P ys flags) → (flags : List Bool)
        × AreFlagsOf P (y ∷ ys) flags
    step (inl p) r = (false ∷ r.0, more_flags P y ys false r.0 ((λ e. p), (λ q. refl)) r.1)
    step (inr z) r =
        (true ∷ r.0, more_flags P y ys true r.0 ((λ e. absurd (true≢false (sym e))), (λ q. absurd (z q))) r.1)
