-- One more right step.
use Rattle.std.proofs.Common.{◌≡◌, ℕ, ◌+◌, ◌<◌, List, [], ◌∷◌, ◌++◌, take, length, get_or, subst, sym, append_assoc, refl, ◌∙◌}
use Rattle.std.proofs.Common.{ap}
use Rattle.std.proofs.lemmas.List.{append-nil, take_more, take_all}
use Rattle.ul_problem.specs.Steps.{Accepts}
use Rattle.ul_derivation.specs.Faults.{IsFirstBad}
use Rattle.std.specs.Prelude.{Bool, false, IsTrue, ◌↔◌}
use Rattle.std.proofs.lemmas.Option.{none-some, same_Some, slice_get_read, slice_get_within}
use Rattle.std.proofs.lemmas.Bool.{cases_order, true≢false}
use Rattle.std.proofs.Common.{zero, suc, ◌-◌, Some, slice_get, arith, inl, inr}
use Rattle.ul_problem.specs.Plain.{Plain}
use Rattle.ul_problem.specs.Steps.{IsRight, AreRightAfter}
use Rattle.ul_problem.specs.declared.step.Step.{Step}

right_more : (p : Plain) (earlier xs : List Step) (s : Step) → AreRightAfter p earlier xs → IsRight p (earlier ++ xs) s → AreRightAfter p earlier (xs ++ s ∷ [])
right_more p earlier [] s h i = (subst (λ (l : List Step). IsRight p l s) (append-nil earlier) i, tt)
right_more p earlier (x ∷ xs) s h i = (h.0, right_more p (earlier ++ x ∷ []) xs s h.1 (subst (λ (l : List Step). IsRight p l s) (sym (append_assoc earlier (x ∷ []) xs)) i))

pub right_next : (p : Plain) (steps : List Step) (i : ℕ) (s : Step) → i < length steps → s ≡ get_or steps i s → AreRightAfter p [] (take i steps) → IsRight p (take i steps) s → AreRightAfter p [] (take (i + 1) steps)
right_next p steps i s low is h r =
    let e : take (i + 1) steps ≡ take i steps ++ s ∷ [] = take_more steps i s low ∙ ap (λ (x : Step). take i steps ++ x ∷ []) (sym is) in
    subst (AreRightAfter p []) (sym e) (right_more p [] (take i steps) s h r)

-- a step of a right front is right
right_at : (p : Plain) (n : ℕ) (earlier xs : List Step) (i : ℕ) (s : Step) → AreRightAfter p earlier (take n xs) → i < n → slice_get xs i ≡ Some s → IsRight p (earlier ++ take i xs) s
right_at p n earlier [] i s r h e = absurd (none-some s e)
right_at p zero earlier (x ∷ xs) i s r h e = absurd (omega arith)
right_at p (suc n) earlier (x ∷ xs) zero s r h e = subst (λ (l : List Step). IsRight p l s) (sym (append-nil earlier)) (subst (λ (y : Step). IsRight p earlier y) (same_Some x s e) r.0)
right_at p (suc n) earlier (x ∷ xs) (suc i) s r h e =
    subst (λ (l : List Step). IsRight p l s) (append_assoc earlier (x ∷ []) (take i xs)) (right_at p n (earlier ++ x ∷ []) xs i s r.1 (omega arith) e)

-- the earlier of two first bad steps would be right
not_before : (p : Plain) (steps : List Step) (j k : ℕ) → IsFirstBad p steps j → IsFirstBad p steps k → j < k → ⊥
not_before p steps j k a b h = elim a.bad [
  | inl x ↦ x.2 (right_at p (k - 1) [] steps (j - 1) x.0 b.before (omega (arith, a.is_number)) x.1)
  | inr x ↦ elim b.bad [
    | inl y ↦ (let w = slice_get_within steps (k - 1) y.0 y.1 in omega (arith, w, x.0))
    | inr y ↦ omega (arith, x.0, y.0)
  ]
]

pub fault_one : (p : Plain) (steps : List Step) (j k : ℕ) → IsFirstBad p steps j → IsFirstBad p steps k → j ≡ k
fault_one p steps j k a b = elim (cases_order j k) [
  | inl e ↦ e
  | inr o ↦ elim o [ inl h ↦ absurd (not_before p steps j k a b h) | inr h ↦ absurd (not_before p steps k j b a h) ]
]

pub fault_refuses : (p : Plain) (steps : List Step) (k : ℕ) → IsFirstBad p steps k → Accepts p steps → ⊥
fault_refuses p steps k a r = elim a.bad [
  | inl x ↦ (let w = slice_get_within steps (k - 1) x.0 x.1 in
      x.2 (right_at p (length steps) [] steps (k - 1) x.0 (subst (AreRightAfter p []) (sym (take_all (length steps) steps (omega arith))) r.0) w x.1))
  | inr x ↦ x.1 r.1
]

-- a step that isn't right is the first bad one
pub bad_here : (p : Plain) (steps all : List Step) (i : ℕ) (s : Step) (b : Bool) → steps ≡ all → i < length steps → s ≡ get_or steps i s → AreRightAfter p [] (take i steps)
    → IsTrue b ↔ IsRight p (take i steps) s → b ≡ false → IsFirstBad p all (i + 1)
bad_here p steps all i s b e l is before t f = subst (λ (x : List Step). IsFirstBad p x (i + 1)) e (record {
  is_number = omega arith;
  before = subst (λ (k : ℕ). AreRightAfter p [] (take k steps)) (sym back) before;
  bad = inl (s, ap (slice_get steps) back ∙ slice_get_read steps (length steps) i s refl l is, λ r. true≢false (sym (t.1 (subst (λ (k : ℕ). IsRight p (take k steps) s) back r)) ∙ f));
})
  where
    back : i + 1 - 1 ≡ i
    back = omega arith
