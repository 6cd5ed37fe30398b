-- What a look at held incompatibilities finds.
use Rattle.std.specs.Prelude.{◌≡◌, ℕ, suc, List, [], ◌∷◌, ◌++◌, Bool, true, false, Option, Some, None, ◌⊎◌, ◌≤◌, slice_get}
use Rattle.ul_problem.specs.declared.term.Term.{Term}
use Rattle.ul_trail.specs.declared.fact.Fact.{Fact}
use Rattle.ul_trail.specs.declared.fact.Progress.{Progress}
use Rattle.ul_trail.specs.declared.fact.Progress.TheVariants.{Quiet, Conflict}
use Rattle.ul_trail.specs.declared.propagation.Finding.{Finding}
use Rattle.ul_trail.specs.declared.propagation.Finding.TheVariants.{Held, Calm, Forced}
use Rattle.ul_trail.specs.Facts.{IsHeld, AreHeld, AreHeldBut}
use Rattle.ul_trail.specs.Standing.{IsCalm, IsPossible, IsLeaving, IsSettled, IsForced, HasConflict}

-- a term of a list that is possible, all others being held
pub record IsLoose (sizes : List ℕ) (facts : List Fact) (all front : List Term) (i : ℕ) : Type 0 where
  pub term : Term
  pub is : slice_get all i ≡ Some term
  pub but : AreHeldBut facts term front
  pub possible : IsPossible sizes facts term
  pub free : IsHeld facts term → ⊥
  pub leaves : IsLeaving facts term

-- what was seen of the front of a list: all held, or all but one
abbrev pub IsSeen : List ℕ → List Fact → List Term → List Term → Option ℕ → Type 0
IsSeen sizes facts all front None = AreHeld facts front
IsSeen sizes facts all front (Some i) = IsLoose sizes facts all front i

-- what a look at a list finds: all held, or nothing to derive, or the one term that isn't held
abbrev pub IsFinding : List ℕ → List Fact → List Term → Finding → Type 0
IsFinding sizes facts ts Held = AreHeld facts ts
IsFinding sizes facts ts Calm = IsCalm facts ts
IsFinding sizes facts ts (Forced i) = IsLoose sizes facts ts ts i

-- a list that derives nothing
pub record IsCalmAt (terms : List (List Term)) (facts : List Fact) (k : ℕ) : Type 0 where
  pub list : List Term
  pub is : slice_get terms k ≡ Some list
  pub calm : IsCalm facts list

-- a list that forced the one new fact
pub record HasForcedOne (sizes : List ℕ) (terms : List (List Term)) (level k : ℕ) (old now : List Fact) : Type 0 where
  pub fact : Fact
  pub is : now ≡ old ++ fact ∷ []
  pub forced : IsForced sizes terms level old fact
  pub place : forced.place ≡ k

-- what a look at one list does: it is held, or it derives nothing, or it forces a fact
abbrev pub IsSettlement : List ℕ → List (List Term) → ℕ → ℕ → List Fact → List Fact → Bool → Type 0
IsSettlement sizes terms level k old now true = (now ≡ old) × HasConflict terms old k
IsSettlement sizes terms level k old now false = ((now ≡ old) × IsCalmAt terms old k) ⊎ HasForcedOne sizes terms level k old now

-- what a walk over a row finds, where it began at the fact at `seen`
abbrev pub IsWalked : List (List Term) → ℕ → ℕ → List Fact → Option ℕ → Type 0
IsWalked terms seen checked now None = IsSettled now terms (suc seen) checked
IsWalked terms seen checked now (Some k) = HasConflict terms now k × IsSettled now terms seen checked

-- what propagation comes to
abbrev pub IsSpread : List (List Term) → List Fact → Progress → Type 0
IsSpread terms facts Quiet = (k : ℕ) (ts : List Term) → slice_get terms k ≡ Some ts → IsCalm facts ts
IsSpread terms facts (Conflict k) = HasConflict terms facts k
