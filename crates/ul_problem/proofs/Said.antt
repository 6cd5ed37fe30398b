-- What each of some steps says, in their order.
use Rattle.std.proofs.Common.{◌≡◌, ℕ, zero, suc, ◌<◌, ◌≤◌, List, [], ◌∷◌, ◌++◌, Bool, true, false, Some, length, inl, inr, arith, nat_lt, refl, ap, slice_get}
use Rattle.std.proofs.lemmas.Bool.{cases_lt, lt-ltb, le-ltb}
use Rattle.std.proofs.lemmas.Option.{none-some, same_Some}
use Rattle.ul_ranges.specs.Flags.{is_blank, less}
use Rattle.ul_problem.specs.Plain.{Plain}
use Rattle.ul_problem.specs.Steps.{says, said_by, pair_of}
use Rattle.ul_problem.specs.declared.term.Term.{Term}
use Rattle.ul_problem.specs.declared.term.Term.TheVariants.{In, NotIn}
use Rattle.ul_problem.specs.declared.step.Step.{Step}

pub said_append : (p : Plain) (xs ys : List Step) → said_by p (xs ++ ys) ≡ said_by p xs ++ said_by p ys
said_append p [] ys = refl
said_append p (x ∷ xs) ys = ap (λ (l : List (List Term)). says p x ∷ l) (said_append p xs ys)

pub said_length : (p : Plain) (steps : List Step) → length (said_by p steps) ≡ length steps
said_length p [] = refl
said_length p (s ∷ ss) = ap suc (said_length p ss)

-- the step whose terms stand at a place
pub said_place : (p : Plain) (steps : List Step) (k : ℕ) (ts : List Term) → slice_get (said_by p steps) k ≡ Some ts
    → (s : Step) × (slice_get steps k ≡ Some s) × (says p s ≡ ts)
said_place p [] k ts e = absurd (none-some ts e)
said_place p (s ∷ ss) zero ts e = (s, refl, same_Some (says p s) ts e)
said_place p (s ∷ ss) (suc k) ts e = said_place p ss k ts e

-- the terms of the step at a place
pub said_of : (p : Plain) (steps : List Step) (k : ℕ) (s : Step) → slice_get steps k ≡ Some s → slice_get (said_by p steps) k ≡ Some (says p s)
said_of p [] k s e = absurd (none-some s e)
said_of p (x ∷ ss) zero s e = ap (λ (y : Step). Some (says p y)) (same_Some x s e)
said_of p (x ∷ ss) (suc k) s e = said_of p ss k s e

-- a node's versions, and what is permitted of a target: met where the two are one, alone where nothing is, and else in order
pub pair_met : (n m : ℕ) (s w : List Bool) → n ≡ m → pair_of (In n s) (NotIn m w) ≡ In n (less s w) ∷ []
pair_met n m s w e =
    let low : nat_lt n m ≡ false = le-ltb n m (omega arith) in
    let high : nat_lt m n ≡ false = le-ltb m n (omega arith) in
    rw (low, high) refl

pub pair_blank : (n m : ℕ) (s w : List Bool) → (n ≡ m → ⊥) → is_blank w ≡ true → pair_of (In n s) (NotIn m w) ≡ In n s ∷ []
pair_blank n m s w d e = elim (cases_lt n m) [
  | inl l ↦ rw (e, lt-ltb n m l) refl
  | inr h ↦ rw (e, le-ltb n m h, lt-ltb m n (omega arith)) refl
]

pub pair_rises : (n m : ℕ) (s w : List Bool) → n < m → is_blank w ≡ false → pair_of (In n s) (NotIn m w) ≡ In n s ∷ NotIn m w ∷ []
pair_rises n m s w l e = rw (e, lt-ltb n m l) refl

pub pair_falls : (n m : ℕ) (s w : List Bool) → (n ≡ m → ⊥) → m ≤ n → is_blank w ≡ false → pair_of (In n s) (NotIn m w) ≡ NotIn m w ∷ In n s ∷ []
pair_falls n m s w d h e = rw (e, le-ltb n m h, lt-ltb m n (omega arith)) refl
