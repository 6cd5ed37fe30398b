-- Places in lists that increase.
use Rattle.std.proofs.Common.{◌≡◌, ℕ, zero, suc, List, [], ◌∷◌, Some, refl, ap, subst, slice_get}
use Rattle.std.proofs.lemmas.Option.{none-some, same_Some}
use Rattle.std.specs.declared.cmp.Ordering.TheVariants.{Less}
use Rattle.ul_version.specs.Fields.{Fields}
use Rattle.ul_version.specs.Order.{version_cmp}
use Rattle.ul_version.proofs.ForCallers.{version_total}
use Rattle.ul_problem.specs.Problems.{Increases, IncreasesFrom, VersionBefore}

module _ {A : Type 0} (R : A → A → Type 0) (trans : (x y z : A) → R x y → R y z → R x z) where
  pub after : (x : A) (xs : List A) (k : ℕ) (y : A) → IncreasesFrom R x xs → slice_get xs k ≡ Some y → R x y
  after x [] k y h e = absurd (none-some y e)
  after x (z ∷ zs) zero y h e = subst (R x) (same_Some z y e) h.0
  after x (z ∷ zs) (suc k) y h e = trans x z y h.0 (after z zs k y h.1 e)

  pub tail : (x : A) (xs : List A) → IncreasesFrom R x xs → Increases R xs
  tail x [] h = tt
  tail x (z ∷ zs) h = h.1

  -- elements of which none comes before the other stand at one place
  pub one_place : (xs : List A) (j k : ℕ) (x y : A) → Increases R xs → slice_get xs j ≡ Some x → slice_get xs k ≡ Some y → (R x y → ⊥) → (R y x → ⊥) → j ≡ k
  one_place [] j k x y h d e a b = absurd (none-some x d)
  one_place (z ∷ zs) zero zero x y h d e a b = refl
  one_place (z ∷ zs) zero (suc k) x y h d e a b = absurd (a (subst (λ u. R u y) (same_Some z x d) (after z zs k y h e)))
  one_place (z ∷ zs) (suc j) zero x y h d e a b = absurd (b (subst (λ u. R u x) (same_Some z y e) (after z zs j x h d)))
  one_place (z ∷ zs) (suc j) (suc k) x y h d e a b = ap suc (one_place zs j k x y (tail z zs h) d e a b)

not_itself : (v : Fields) → version_cmp v v ≡ Less → ⊥
not_itself v e = let r = version_total.antisymm v v in cc

-- a version stands at one place of versions that increase
pub version_place : (vs : List Fields) (j k : ℕ) (x : Fields) → Increases VersionBefore vs → slice_get vs j ≡ Some x → slice_get vs k ≡ Some x → j ≡ k
version_place vs j k x h d e = one_place VersionBefore version_total.trans vs j k x x h d e (not_itself x) (not_itself x)
