-- Steps that grow: what was right stays right.
use Rattle.std.proofs.Common.{◌≡◌, ℕ, zero, suc, List, [], ◌∷◌, ◌++◌, Some, sym, subst, slice_get}
use Rattle.std.proofs.lemmas.Option.{none-some, same_Some}
use Rattle.ul_problem.specs.Plain.{Plain}
use Rattle.ul_problem.specs.Problems.{IsWellFormed}
use Rattle.ul_problem.specs.Steps.{AreRightAfter, AreRootTerms, AreTermsOf, ClosesWith, HasTermOn, IsIncompat, IsResolvent, IsRight, says}
use Rattle.ul_problem.specs.declared.term.Term.{Term}
use Rattle.ul_problem.specs.declared.step.Step.{Step}
use Rattle.ul_problem.specs.declared.step.Step.TheVariants.{Cut}
use Rattle.ul_problem.proofs.ForCallers.{all_within, resolvent_fits, says_fits, says_whole}
use Rattle.ul_conflict.proofs.Turning.{right_last}

-- one more right step
pub right_more : (p : Plain) (steps : List Step) (s : Step) → AreRightAfter p [] steps → IsRight p steps s
    → AreRightAfter p [] (steps ++ s ∷ [])
right_more p steps s h r = right_last p [] steps s h r

-- what a step at a place says
pub whole_at : (p : Plain) (steps : List Step) (k : ℕ) (s : Step) → AreRightAfter p [] steps
    → slice_get steps k ≡ Some s → IsIncompat (says p s)
whole_at p steps k s r e = says_whole p s (all_within p steps r k s e)

pub fits_at_place : (p : Plain) (steps : List Step) (k : ℕ) (s : Step) → IsWellFormed p → AreRightAfter p [] steps
    → slice_get steps k ≡ Some s → AreTermsOf p (says p s)
fits_at_place p steps k s wf r e = says_fits p s wf (all_within p steps r k s e)

-- the cut of the steps at two places
pub cut_right : (p : Plain) (steps : List Step) (i j m : ℕ) (s t : Step) (ts : List Term) → IsWellFormed p
    → AreRightAfter p [] steps → slice_get steps i ≡ Some s → slice_get steps j ≡ Some t
    → HasTermOn m (says p s) → HasTermOn m (says p t) → IsResolvent m (says p s) (says p t) ts
    → IsRight p steps (Cut (suc i) (suc j) m ts)
cut_right p steps i j m s t ts wf r e f a b res =
    let left = fits_at_place p steps i s wf r e in
    let right = fits_at_place p steps j t wf r f in
    (resolvent_fits p m (says p s) (says p t) ts left right res, (s, t, e, f, a, b, res))

-- the steps up to one that forbids the roots
closes_more : (p : Plain) (s : Step) (ss : List Step) → ClosesWith p ss → ClosesWith p (s ∷ ss)
closes_more p s [] c = absurd c
closes_more p s (t ∷ ss) c = c

pub closed_from : (p : Plain) (earlier steps : List Step) (k : ℕ) (s : Step) → AreRightAfter p earlier steps
    → slice_get steps k ≡ Some s → AreRootTerms p (says p s)
    → (ss : List Step) × AreRightAfter p earlier ss × ClosesWith p ss
closed_from p earlier [] k s r e c = absurd (none-some s e)
closed_from p earlier (x ∷ xs) zero s r e c =
    (x ∷ [], (r.0, tt), subst (λ (y : Step). AreRootTerms p (says p y)) (sym (same_Some x s e)) c)
closed_from p earlier (x ∷ xs) (suc k) s r e c =
    let f = closed_from p (earlier ++ x ∷ []) xs k s r.1 e c in
    (x ∷ f.0, (r.0, f.1), closes_more p x f.0 f.2)
