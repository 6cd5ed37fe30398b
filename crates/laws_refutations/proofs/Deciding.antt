-- Whether a step is right after right ones, and whether steps close, are decided.
use Rattle.std.proofs.Common.{◌≡◌, ℕ, ◌<◌, inl, inr, List, [], ◌∷◌, Bool, true, false, Option, Some, None, length, arith, refl, sym, ap, ◌∙◌, subst}
use Rattle.std.proofs.lemmas.Bool.{cases_eq, cases_lt}
use Rattle.std.proofs.lemmas.Option.{none-some, same_Some}
use Rattle.ul_ranges.specs.Flags.{has, is_blank, is_within}
use Rattle.ul_ranges.proofs.ForCallers.{within}
use Rattle.ul_problem.specs.Terms.{IsOrdered, node_of, set_of, term_on}
use Rattle.ul_problem.specs.Plain.{Plain, size_of, base_of, barred_of, needs_of}
use Rattle.ul_problem.specs.Steps.{AreRightAfter, AreRootTerms, AreTermsOf, ClosesWith, HasNeed, HasTermOn, IsCutOf, IsResolvent, IsRight, IsRightNeed, IsRightPython, IsRightBase, IsRootTerm, IsTermOf, says, step_of}
use Rattle.ul_problem.specs.declared.problem.Need.{Need}
use Rattle.ul_problem.specs.declared.term.Term.{Term}
use Rattle.ul_problem.specs.declared.term.Term.TheVariants.{In, NotIn}
use Rattle.ul_problem.specs.declared.step.Step.{Step}
use Rattle.ul_problem.specs.declared.step.Step.TheVariants.{Need as NeedStep, Python, Base, Cut}
use Rattle.ul_problem.proofs.ForCallers.{has_within, one_resolvent, step_place}
use Rattle.ul_solver.proofs.ForCallers.{bool_decided}
use Rattle.laws_trees.specs.Decided.{Decided}
use Rattle.laws_trees.proofs.ForCallers.{all_below, both_decided, decided_as, list_decided, some_member}
use Rattle.laws_refutations.proofs.Growing.{whole_at}
use Rattle.laws_refutations.proofs.Resolvents.{resolved}
use Rattle.laws_refutations.proofs.Selections.{is_listed}

given_decided : {A B : Type 0} → Decided A → Decided B → Decided (A → B)
given_decided (inl a) (inl b) = inl (λ x. b)
given_decided (inl a) (inr z) = inr (λ f. z (f a))
given_decided (inr z) d = inl (λ a. absurd (z a))

below_decided : (m n : ℕ) → Decided (m < n)
below_decided m n = elim (cases_lt m n) [ inl h ↦ inl h | inr h ↦ inr (λ l. omega arith) ]

there_decided : {A : Type 0} (o : Option A) → Decided ((x : A) × (o ≡ Some x))
there_decided None = inr (λ h. none-some h.0 h.1)
there_decided (Some x) = inl (x, refl)

-- equal terms
term_decided : (t u : Term) → Decided (t ≡ u)
term_decided (In n s) (In m w) =
    decided_as (both_decided (cases_eq n m) (list_decided bool_decided s w))
    (λ h. ap (λ (k : ℕ). In k s) h.0 ∙ ap (λ (x : List Bool). In m x) h.1) (λ e. (node e, set e))
  where
    node : In n s ≡ In m w → n ≡ m
    node e = cc

    set : In n s ≡ In m w → s ≡ w
    set e = cc
term_decided (In n s) (NotIn m w) = inr (λ e. cc)
term_decided (NotIn n s) (In m w) = inr (λ e. cc)
term_decided (NotIn n s) (NotIn m w) =
    decided_as (both_decided (cases_eq n m) (list_decided bool_decided s w))
    (λ h. ap (λ (k : ℕ). NotIn k s) h.0 ∙ ap (λ (x : List Bool). NotIn m x) h.1) (λ e. (node e, set e))
  where
    node : NotIn n s ≡ NotIn m w → n ≡ m
    node e = cc

    set : NotIn n s ≡ NotIn m w → s ≡ w
    set e = cc

-- terms of the problem
term_fits_decided : (p : Plain) (t : Term) → Decided (IsTermOf p t)
term_fits_decided p t =
    both_decided (below_decided (node_of t) (length p.nodes)) (cases_eq (length (set_of t)) (size_of p (node_of t)))

terms_fit_decided : (p : Plain) (ts : List Term) → Decided (AreTermsOf p ts)
terms_fit_decided p [] = inl tt
terms_fit_decided p (t ∷ ts) = both_decided (term_fits_decided p t) (terms_fit_decided p ts)

root_term_decided : (p : Plain) (t : Term) → Decided (IsRootTerm p t)
root_term_decided p (In n s) =
    let two = both_decided (term_fits_decided p (In n s)) (bool_decided (is_blank s) false) in
    decided_as (both_decided (is_listed p.roots n) two) (λ h. (h.0, h.1.0, h.1.1)) (λ h. (h.0, (h.1, h.2)))
root_term_decided p (NotIn n s) = inr (λ h. h)

root_terms_decided : (p : Plain) (ts : List Term) → Decided (AreRootTerms p ts)
root_terms_decided p [] = inl tt
root_terms_decided p (t ∷ ts) = both_decided (root_term_decided p t) (root_terms_decided p ts)

-- whether steps close
pub closes_decided : (p : Plain) (steps : List Step) → Decided (ClosesWith p steps)
closes_decided p [] = inr (λ h. h)
closes_decided p (s ∷ []) = root_terms_decided p (says p s)
closes_decided p (s ∷ t ∷ ss) = closes_decided p (t ∷ ss)

-- the four kinds of step
within_decided : (s w : List Bool) → Decided ((u : ℕ) → has u s ≡ true → has u w ≡ true)
within_decided s w = decided_as (bool_decided (is_within s w) true) ((within s w).0) ((within s w).1)

need_decided : (needs : List Need) (m : ℕ) (w : List Bool) → Decided (HasNeed needs m w)
need_decided needs m w =
    decided_as
    (some_member (λ (need : Need). (need.node ≡ m) × ((u : ℕ) → has u need.permitted ≡ true → has u w ≡ true)) needs
    (λ need i. both_decided (cases_eq need.node m) (within_decided need.permitted w)))
    (λ h. (h.0, h.1, h.2.0, h.2.1)) (λ h. (h.0, h.1, (h.2, h.3)))

needs_decided : (p : Plain) (n m : ℕ) (s w : List Bool)
    → Decided ((v : ℕ) → has v s ≡ true → HasNeed (needs_of p n v) m w)
needs_decided p n m s w =
    decided_as (all_below (λ (v : ℕ). has v s ≡ true → HasNeed (needs_of p n v) m w)
    (λ v. given_decided (bool_decided (has v s) true) (need_decided (needs_of p n v) m w)) (length s))
    (λ h v e. h v (has_within s v e) e) (λ h v l e. h v e)

need_step_decided : (p : Plain) (n : ℕ) (s : List Bool) (m : ℕ) (w : List Bool) → Decided (IsRightNeed p n s m w)
need_step_decided p n s m w =
    let two = both_decided (term_fits_decided p (In m w)) (needs_decided p n m s w) in
    decided_as (both_decided (term_fits_decided p (In n s)) two)
    (λ h. (h.0.0, h.1.0.0, h.0.1, h.1.0.1, h.1.1)) (λ h. ((h.0, h.2), ((h.1, h.3), h.4)))

python_step_decided : (p : Plain) (n : ℕ) (s : List Bool) → Decided (IsRightPython p n s)
python_step_decided p n s =
    decided_as (both_decided (term_fits_decided p (In n s)) (within_decided s (barred_of p n)))
    (λ h. (h.0.0, h.0.1, h.1)) (λ h. ((h.0, h.1), h.2))

base_step_decided : (p : Plain) (n : ℕ) (s : List Bool) → Decided (IsRightBase p n s)
base_step_decided p n s =
    decided_as (both_decided (term_fits_decided p (In n s)) (there_decided (base_of p n)))
    (λ h. (h.0.0, h.0.1, h.1)) (λ h. ((h.0, h.1), h.2))

resolvent_decided : (m : ℕ) (left right ts : List Term) → IsOrdered left → IsOrdered right
    → Decided (IsResolvent m left right ts)
resolvent_decided m left right ts a b =
    let r = resolved m left right a b in
    decided_as (list_decided term_decided r.0 ts) (λ e. subst (IsResolvent m left right) e r.1)
    (λ h. one_resolvent m left right r.0 ts r.1 h)

cut_decided : (p : Plain) (earlier : List Step) (i j m : ℕ) (ts : List Term) → AreRightAfter p [] earlier
    → Decided (IsCutOf p earlier i j m ts)
cut_decided p earlier i j m ts r = which (step_of earlier i) (step_of earlier j) refl refl
  where
    in_order : (k : ℕ) (s : Step) → step_of earlier k ≡ Some s → IsOrdered (says p s)
    in_order k s e = (let a = step_place earlier k s e in (whole_at p earlier a.0 s r a.1).0)

    back : (s t : Step) → step_of earlier i ≡ Some s → step_of earlier j ≡ Some t → IsCutOf p earlier i j m ts
        → HasTermOn m (says p s) × (HasTermOn m (says p t) × IsResolvent m (says p s) (says p t) ts)
    back s t e f (left, right, el, er, a, b, res) =
        let same : says p left ≡ says p s = ap (says p) (same_Some left s (sym el ∙ e)) in
        let like : says p right ≡ says p t = ap (says p) (same_Some right t (sym er ∙ f)) in
        let half = subst (λ (l : List Term). IsResolvent m (says p left) l ts) like res in
        let whole = subst (λ (l : List Term). IsResolvent m l (says p t) ts) same half in
        (subst (HasTermOn m) same a, (subst (HasTermOn m) like b, whole))

    which : (a b : Option Step) → step_of earlier i ≡ a → step_of earlier j ≡ b → Decided (IsCutOf p earlier i j m ts)
    which None b e f = inr (λ h. none-some h.0 (sym e ∙ h.2))
    which (Some s) None e f = inr (λ h. none-some h.1 (sym f ∙ h.3))
    which (Some s) (Some t) e f =
        let resolvent = resolvent_decided m (says p s) (says p t) ts (in_order i s e) (in_order j t f) in
        let on_right = there_decided (term_on m (says p t)) in
        decided_as (both_decided (there_decided (term_on m (says p s))) (both_decided on_right resolvent))
        (λ h. (s, t, e, f, h.0, h.1.0, h.1.1)) (back s t e f)

-- whether a step is right
pub right_decided : (p : Plain) (earlier : List Step) (s : Step) → AreRightAfter p [] earlier
    → Decided (IsRight p earlier s)
right_decided p earlier (NeedStep n s m w) r = need_step_decided p n s m w
right_decided p earlier (Python n s) r = python_step_decided p n s
right_decided p earlier (Base n s) r = base_step_decided p n s
right_decided p earlier (Cut i j m ts) r = both_decided (terms_fit_decided p ts) (cut_decided p earlier i j m ts r)
