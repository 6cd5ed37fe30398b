-- Right steps have names.
use Rattle.std.proofs.Common.{◌≡◌, ℕ, zero, suc, ◌+◌, ◌<◌, ◌⊎◌, inl, inr, List, [], ◌∷◌, ◌++◌, length, drop, get_or, subst, sym, ap, ◌∙◌, Some, slice_get}
use Rattle.std.proofs.lemmas.List.{drop_more}
use Rattle.std.proofs.lemmas.Option.{none-some, same_Some}
use Rattle.ul_problem.specs.Plain.{Plain}
use Rattle.ul_problem.specs.Problems.{IsWellFormed}
use Rattle.ul_problem.specs.Steps.{AreRightAfter, AreTermsOf, IsRight, IsStepWithin, IsTermOf, says}
use Rattle.ul_problem.specs.declared.term.Term.{Term}
use Rattle.ul_problem.specs.declared.step.Step.{Step}
use Rattle.ul_problem.specs.declared.step.Step.TheVariants.{Need, Python, Base, Cut}
use Rattle.ul_problem.proofs.ForCallers.{AreWithin, right_within, says_fits, fits_at, term_one, step_place}
use Rattle.ul_report.specs.Naming.{HasNames, HaveNames}

at_end : (xs : List Step) (y x : Step) (k : ℕ) → slice_get (xs ++ y ∷ []) k ≡ Some x → (slice_get xs k ≡ Some x) ⊎ (y ≡ x)
at_end [] y x zero h = inr (same_Some y x h)
at_end [] y x (suc k) h = absurd (none-some x h)
at_end (z ∷ xs) y x zero h = inl h
at_end (z ∷ xs) y x (suc k) h = at_end xs y x k h

within_more : (p : Plain) (earlier : List Step) (s : Step) → AreWithin p earlier → IsStepWithin p s → AreWithin p (earlier ++ s ∷ [])
within_more p earlier s h w k t e = elim (at_end earlier s t k e) [ inl f ↦ h k t f | inr f ↦ subst (λ (u : Step). IsStepWithin p u) f w ]

step_named : (p : Plain) (earlier : List Step) (s : Step) → IsWellFormed p → AreWithin p earlier → IsRight p earlier s → HasNames p s
step_named p earlier (Need n s m w) whole h r = ((r.0, r.2), (r.1, r.3))
step_named p earlier (Python n s) whole h r = (r.0, r.1)
step_named p earlier (Base n s) whole h r = (r.0, r.1)
step_named p earlier (Cut i j m ts) whole h (of, (left, right, el, er, (t, tl), tr, res)) =
    let place = step_place earlier i left el in
    let fits = says_fits p left whole (h place.0 left place.1) in
    let one = term_one m (says p left) t tl in
    (subst (λ (k : ℕ). k < length p.nodes) one.1 (fits_at p (says p left) t fits one.0).0, of)

named_from : (p : Plain) (earlier steps : List Step) → IsWellFormed p → AreWithin p earlier → AreRightAfter p earlier steps → HaveNames p steps
named_from p earlier [] whole h r = tt
named_from p earlier (s ∷ ss) whole h r =
    (step_named p earlier s whole h r.0, named_from p (earlier ++ s ∷ []) ss whole (within_more p earlier s h (right_within p earlier s h r.0)) r.1)

-- steps that are right one after another have names
pub right_named : (p : Plain) (steps : List Step) → IsWellFormed p → AreRightAfter p [] steps → HaveNames p steps
right_named p steps whole r = named_from p [] steps whole (λ k s e. absurd (none-some s e)) r

-- ---- tests of a list, element by element

-- each of the two gives the other
pub record IsAlike (P Q : Type 0) : Type 0 where
  pub to : P → Q
  pub from : Q → P

front_is : {A : Type 0} (xs : List A) (i : ℕ) (x : A) → i < length xs → x ≡ get_or xs i x → drop i xs ≡ x ∷ drop (i + 1) xs
front_is xs i x h e = drop_more xs i x h ∙ ap (λ y. y ∷ drop (i + 1) xs) (sym e)

-- terms of the problem, one after another
pub terms_more : (p : Plain) (ts : List Term) (i : ℕ) (t : Term) (Q : Type 0) → i < length ts → t ≡ get_or ts i t → IsTermOf p t → IsAlike (AreTermsOf p (drop i ts)) Q → IsAlike (AreTermsOf p (drop (i + 1) ts)) Q
terms_more p ts i t Q h e f a =
    let g = front_is ts i t h e in
    record { to = λ r. a.to (subst (AreTermsOf p) (sym g) (f, r)); from = λ q. (subst (AreTermsOf p) g (a.from q)).1 }

-- a term that is none
pub terms_not : (p : Plain) (ts : List Term) (i : ℕ) (t : Term) (Q : Type 0) → i < length ts → t ≡ get_or ts i t → (IsTermOf p t → ⊥) → IsAlike (AreTermsOf p (drop i ts)) Q → Q → ⊥
terms_not p ts i t Q h e f a q = f (subst (AreTermsOf p) (front_is ts i t h e) (a.from q)).0

-- steps with names, one after another
pub names_more : (p : Plain) (ss : List Step) (i : ℕ) (s : Step) (Q : Type 0) → i < length ss → s ≡ get_or ss i s → HasNames p s → IsAlike (HaveNames p (drop i ss)) Q → IsAlike (HaveNames p (drop (i + 1) ss)) Q
names_more p ss i s Q h e f a =
    let g = front_is ss i s h e in
    record { to = λ r. a.to (subst (HaveNames p) (sym g) (f, r)); from = λ q. (subst (HaveNames p) g (a.from q)).1 }
