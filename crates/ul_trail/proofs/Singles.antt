-- A set of one version.
use Rattle.std.proofs.Common.{◌≡◌, ℕ, zero, suc, List, [], ◌∷◌, Bool, true, false, refl, ap, ◌∙◌, sym, subst, ◌<◌, ◌≤◌, inl, inr, arith, length, eqb, eq-eqb, ◌||◌}
use Rattle.std.proofs.lemmas.Bool.{cases_eq, cases_lt, ne_eqb}
use Rattle.ul_ranges.specs.Flags.{has, set_of}
use Rattle.ul_ranges.proofs.ForCallers.{same_sets, has-set_of, length-set_of}
use Rattle.ul_problem.proofs.ForCallers.{has_within}
use Rattle.ul_trail.specs.Facts.{one_of}
use Rattle.ul_trail.proofs.Following.{one_has}

pub one_length : (size v : ℕ) → length (one_of size v) ≡ size
one_length zero v = refl
one_length (suc size) zero = ap suc (one_length size (suc size))
one_length (suc size) (suc v) = ap suc (one_length size v)

one_none : (size v k : ℕ) → size ≤ v → has k (one_of size v) ≡ false
one_none zero v k h = refl
one_none (suc size) zero k h = absurd (omega arith)
one_none (suc size) (suc v) zero h = refl
one_none (suc size) (suc v) (suc k) h = one_none size v k (omega arith)

pub one_other : (size v k : ℕ) → (v ≡ k → ⊥) → has k (one_of size v) ≡ false
one_other zero v k h = refl
one_other (suc size) zero zero h = absurd (h refl)
one_other (suc size) zero (suc k) h = one_none size (suc size) k (omega arith)
one_other (suc size) (suc v) zero h = refl
one_other (suc size) (suc v) (suc k) h = one_other size v k (λ e. h (ap suc e))

missing : (s : List Bool) (k : ℕ) → length s ≤ k → has k s ≡ false
missing s k h = which (has k s) refl
  where
    which : (b : Bool) → has k s ≡ b → b ≡ false
    which true e = absurd (let w = has_within s k e in omega arith)
    which false e = refl

or_false : (b : Bool) → (b || false) ≡ b
or_false true = refl
or_false false = refl

one_is : (size v k : ℕ) → v < size → eqb v k ≡ has k (one_of size v)
one_is size v k h = elim (cases_eq v k) [
  | inl e ↦ eq-eqb v k e ∙ sym (subst (λ (j : ℕ). has j (one_of size v) ≡ true) e (one_has size v h))
  | inr d ↦ ne_eqb v k d ∙ sym (one_other size v k d)
]

pub one_set : (size v : ℕ) → v < size → set_of size (v ∷ []) ≡ one_of size v
one_set size v h = same_sets (set_of size (v ∷ [])) (one_of size v) (length-set_of size (v ∷ []) ∙ sym (one_length size v)) (λ k. elim (cases_lt k size) [
  | inl l ↦ has-set_of k size (v ∷ []) l ∙ (or_false (eqb v k) ∙ one_is size v k h)
  | inr l ↦ (missing (set_of size (v ∷ [])) k (let a = length-set_of size (v ∷ []) in omega arith) ∙ sym (missing (one_of size v) k (let a = one_length size v in omega arith)))
])
