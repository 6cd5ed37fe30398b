-- Held steps beside what they say. Nearly all are needs, which are read off the two terms that they say; the others are kept as they are.
use Rattle.std.specs.Prelude.{◌≡◌, ◌+◌, ◌⊎◌, ℕ, zero, suc, List, [], ◌∷◌, ◌++◌, Bool, true, false, cond, not, Some, ◌≤◌, nat_eq, slice_get, get_or, length}
use Rattle.ul_ranges.specs.Flags.{is_blank}
use Rattle.ul_problem.specs.Plain.{Plain}
use Rattle.ul_problem.specs.Steps.{said_by}
use Rattle.ul_problem.specs.declared.term.Term.{Term}
use Rattle.ul_problem.specs.declared.term.Term.TheVariants.{In, NotIn}
use Rattle.ul_problem.specs.declared.step.Step.{Step}
use Rattle.ul_problem.specs.declared.step.Step.TheVariants.{Need as NeedStep, Python, Base, Cut}
use Rattle.ul_trail.specs.declared.held_steps.HeldSteps.{HeldSteps}

-- what is read off terms that aren't a need's
abbrev pub no_need : Step
no_need = Python 0 []

-- the need that says two terms, in either order
abbrev pub need_in : Term → Term → Step
need_in (In n s) (NotIn m w) = NeedStep n s m w
need_in (NotIn m w) (In n s) = NeedStep n s m w
need_in (In n s) (In m w) = no_need
need_in (NotIn n s) (NotIn m w) = no_need

-- the need that says terms
abbrev pub need_of : List Term → Step
need_of [] = no_need
need_of (t ∷ []) = no_need
need_of (t ∷ u ∷ ts) = need_in t u

-- a need that says two terms: its target is another node, and some version of it is permitted
abbrev pub is_read_off : Step → Bool
is_read_off (NeedStep n s m w) = cond (nat_eq n m) false (not (is_blank w))
is_read_off (Python n s) = false
is_read_off (Base n s) = false
is_read_off (Cut i j m ts) = false

-- a step that says terms: by its number it is read off them, or stands among the others
abbrev pub step_read : List Step → List Term → ℕ → Step
step_read others ts zero = need_of ts
step_read others ts (suc k) = get_or others k (need_of ts)

-- the steps of some numbers, in their order
abbrev pub steps_read : List ℕ → List Step → List (List Term) → List Step
steps_read [] others terms = []
steps_read (k ∷ ks) others [] = step_read others [] k ∷ steps_read ks others []
steps_read (k ∷ ks) others (ts ∷ terms) = step_read others ts k ∷ steps_read ks others terms

-- the held steps, beside what they say
abbrev pub steps_in : HeldSteps → List (List Term) → List Step
steps_in held terms = steps_read held.places.items held.others.items terms

-- each list of terms has a number, and each number a step
pub record ArePlaced (places : List ℕ) (others : List Step) (terms : List (List Term)) : Type 0 where
  pub count : length places ≡ length terms
  pub within : (i k : ℕ) → slice_get places i ≡ Some k → k ≤ length others

-- the number of a step that is held: 0, and the others stay, where it is read off; else one more than its place at their end
abbrev pub IsNumbered : Step → List Step → List Step → ℕ → Type 0
IsNumbered s old now k =
    (is_read_off s ≡ true) × (k ≡ 0) × (now ≡ old) ⊎ (k ≡ length old + 1) × (now ≡ old ++ s ∷ [])

-- steps are held after those that were, beside what all of them say
abbrev pub HoldsAlso : List Step → HeldSteps → HeldSteps → Type 0
HoldsAlso steps old now =
    (p : Plain) (terms : List (List Term)) → ArePlaced old.places.items old.others.items terms
    → ArePlaced now.places.items now.others.items (terms ++ said_by p steps)
    × (steps_in now (terms ++ said_by p steps) ≡ steps_in old terms ++ steps)
