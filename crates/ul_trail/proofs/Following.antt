-- The facts of a trail follow.
use Rattle.std.proofs.Common.{◌≡◌, ℕ, zero, suc, List, [], ◌∷◌, ◌++◌, Bool, true, false, cond, not, Option, Some, None, refl, ap, ◌∙◌, sym, subst, ◌<◌, inl, inr, arith, nat_eq, append_assoc}
use Rattle.std.proofs.lemmas.Bool.{eqb-true, true≢false}
use Rattle.std.proofs.lemmas.List.{append-nil}
use Rattle.ul_ranges.specs.Flags.{has}
use Rattle.ul_problem.specs.Terms.{Selection, node_of, set_of, allows, holds, all_hold, is_among, negation}
use Rattle.ul_problem.specs.Plain.{Plain, size_of}
use Rattle.ul_problem.specs.Serving.{Serves}
use Rattle.ul_problem.specs.Steps.{says}
use Rattle.ul_problem.specs.Best.{Agrees, Extends}
use Rattle.ul_problem.specs.declared.term.Term.{Term}
use Rattle.ul_problem.specs.declared.term.Term.TheVariants.{In, NotIn}
use Rattle.ul_problem.specs.declared.step.Step.{Step}
use Rattle.ul_problem.proofs.ForCallers.{and_both}
use Rattle.ul_trail.specs.Track.{Track}
use Rattle.ul_trail.specs.declared.fact.Fact.{Fact}
use Rattle.ul_trail.specs.Facts.{is_open, IsHeld, AreHeld, AreHeldBut, one_of, first_of, pick_with, picks_of}
use Rattle.ul_trail.specs.Propagation.{IsDerived, AreDerivedAfter, AreForbidden, Follow, AreTrue, AreSound}

-- what the selection has is open where the facts are true
open_here : (f : Fact) (o : Option ℕ) (σ : Selection) (n : ℕ) (r b : Bool) → nat_eq (node_of f.term) n ≡ b → holds σ f.term ≡ true → r ≡ true → cond b (cond (allows f.term (σ n)) r false) r ≡ true
open_here f o σ n r true e h i = let same : node_of f.term ≡ n = eqb-true (node_of f.term) n e in and_both (allows f.term (σ n)) r (subst (λ (k : ℕ). allows f.term (σ k) ≡ true) same h) i
open_here f o σ n r false e h i = i

pub true_open : (σ : Selection) (facts : List Fact) (n : ℕ) → AreTrue σ facts → is_open facts n (σ n) ≡ true
true_open σ [] n h = refl
true_open σ (f ∷ fs) n h = open_here f (σ n) σ n (is_open fs n (σ n)) (nat_eq (node_of f.term) n) refl h.0 (true_open σ fs n h.1)

held_true : (σ : Selection) (facts : List Fact) (t : Term) → AreTrue σ facts → IsHeld facts t → holds σ t ≡ true
held_true σ facts t h i = i (σ (node_of t)) (true_open σ facts (node_of t) h)

pub all_held_true : (σ : Selection) (facts : List Fact) (ts : List Term) → AreTrue σ facts → AreHeld facts ts → all_hold σ ts ≡ true
all_held_true σ facts [] h i = refl
all_held_true σ facts (t ∷ ts) h i = and_both (holds σ t) (all_hold σ ts) (held_true σ facts t h i.0) (all_held_true σ facts ts h i.1)

but_true : (σ : Selection) (facts : List Fact) (u : Term) (ts : List Term) → AreTrue σ facts → holds σ u ≡ true → AreHeldBut facts u ts → all_hold σ ts ≡ true
but_true σ facts u [] h k i = absurd i
but_true σ facts u (t ∷ ts) h k (inl i) = and_both (holds σ t) (all_hold σ ts) (subst (λ (x : Term). holds σ x ≡ true) (sym i.0) k) (all_held_true σ facts ts h i.1)
but_true σ facts u (t ∷ ts) h k (inr i) = and_both (holds σ t) (all_hold σ ts) (held_true σ facts t h i.0) (but_true σ facts u ts h k i.1)

negation_holds : (σ : Selection) (u : Term) → (holds σ u ≡ true → ⊥) → holds σ (negation u) ≡ true
negation_holds σ (In n s) h = flip (is_among (σ n) s) h
  where
    flip : (b : Bool) → (b ≡ true → ⊥) → not b ≡ true
    flip true h = absurd (h refl)
    flip false h = refl
negation_holds σ (NotIn n s) h = flip (is_among (σ n) s) h
  where
    flip : (b : Bool) → (not b ≡ true → ⊥) → b ≡ true
    flip true h = refl
    flip false h = absurd (h refl)

-- a set of one version
pub one_has : (size v : ℕ) → v < size → has v (one_of size v) ≡ true
one_has zero v h = absurd (omega arith)
one_has (suc size) zero h = refl
one_has (suc size) (suc v) h = one_has size v (omega arith)

pub one_first : (size v : ℕ) → v < size → first_of (one_of size v) ≡ v
one_first zero v h = absurd (omega arith)
one_first (suc size) zero h = refl
one_first (suc size) (suc v) h = ap suc (one_first size v (omega arith))

one_true : (σ : Selection) (n v size : ℕ) (t : Term) → v < size → t ≡ In n (one_of size v) → σ (node_of t) ≡ Some (first_of (set_of t)) → holds σ t ≡ true
one_true σ n v size t h e i =
    let j : σ n ≡ Some (first_of (one_of size v)) = subst (λ (x : Term). σ (node_of x) ≡ Some (first_of (set_of x))) e i in
    let k : σ n ≡ Some v = j ∙ ap Some (one_first size v h) in
    subst (λ (x : Term). holds σ x ≡ true) (sym e) (ap (λ (o : Option ℕ). is_among o (one_of size v)) k ∙ one_has size v h)

-- one fact
fact_true : (p : Plain) (steps : List Step) (earlier : List Fact) (t : Term) (c : Option ℕ) (rest : List (ℕ × ℕ)) (σ : Selection) → AreForbidden p steps → Serves p σ → AreTrue σ earlier → IsDerived p steps earlier t c → Agrees σ (pick_with c t rest) → (holds σ t ≡ true) × Agrees σ rest
fact_true p steps earlier t None rest σ f s h d a = (one_true σ d.0 d.1 (size_of p d.0) t d.2 d.3 a.0, a.1)
fact_true p steps earlier t (Some c) rest σ f s h d a =
    let no : holds σ d.1 ≡ true → ⊥ = λ k. f c d.0 d.2 σ s (but_true σ earlier d.1 (says p d.0) h k d.4) in
    (subst (λ (x : Term). holds σ x ≡ true) (sym d.3) (negation_holds σ d.1 no), a)

true_more : (σ : Selection) (fs : List Fact) (f : Fact) → AreTrue σ fs → holds σ f.term ≡ true → AreTrue σ (fs ++ f ∷ [])
true_more σ [] f h i = (i, tt)
true_more σ (g ∷ fs) f h i = (h.0, true_more σ fs f h.1 i)

facts_true : (p : Plain) (steps : List Step) (earlier fs : List Fact) (σ : Selection) → AreForbidden p steps → Serves p σ → AreTrue σ earlier → AreDerivedAfter p steps earlier fs → Agrees σ (picks_of fs) → AreTrue σ (earlier ++ fs)
facts_true p steps earlier [] σ f s h d a = subst (λ (l : List Fact). AreTrue σ l) (sym (append-nil earlier)) h
facts_true p steps earlier (x ∷ fs) σ f s h d a =
    let now = fact_true p steps earlier x.term x.cause (picks_of fs) σ f s h d.0 a in
    subst (λ (l : List Fact). AreTrue σ l) (append_assoc earlier (x ∷ []) fs) (facts_true p steps (earlier ++ x ∷ []) fs σ f s (true_more σ earlier x h now.0) d.1 now.1)

pub derived_left : (p : Plain) (steps : List Step) (earlier xs ys : List Fact) → AreDerivedAfter p steps earlier (xs ++ ys) → AreDerivedAfter p steps earlier xs
derived_left p steps earlier [] ys h = tt
derived_left p steps earlier (x ∷ xs) ys h = (h.0, derived_left p steps (earlier ++ x ∷ []) xs ys h.1)

pub facts_follow : (p : Plain) (t : Track) (front rest : List Fact) (σ : Selection) → Follow p t.steps t.facts → t.facts ≡ front ++ rest → Serves p σ → Agrees σ (picks_of front) → AreTrue σ front
facts_follow p t front rest σ w e s a =
    let d : AreDerivedAfter p t.steps [] (front ++ rest) = subst (λ (l : List Fact). AreDerivedAfter p t.steps [] l) e w.derived in
    facts_true p t.steps [] front σ w.forbidden s tt (derived_left p t.steps [] front rest d) a

-- all the facts hold of each serving selection that agrees with the picks among them
pub facts_sound : (p : Plain) (steps : List Step) (facts : List Fact) → Follow p steps facts → AreSound p facts
facts_sound p steps facts w σ s a = facts_true p steps [] facts σ w.forbidden s tt w.derived a

agrees_parts : (σ : Selection) (xs ys : List (ℕ × ℕ)) → Agrees σ (xs ++ ys) → Agrees σ xs × Agrees σ ys
agrees_parts σ [] ys h = (tt, h)
agrees_parts σ (x ∷ xs) ys h = let r = agrees_parts σ xs ys h.1 in ((h.0, r.0), r.1)

pub excluded_passed : (p : Plain) (t : Track) (front rest : List Fact) (n w : ℕ) → Follow p t.steps t.facts → t.facts ≡ front ++ rest → is_open front n (Some w) ≡ false → Extends p (picks_of front ++ (n, w) ∷ []) → ⊥
excluded_passed p t front rest n w v e x (σ, s, a) =
    let b = agrees_parts σ (picks_of front) ((n, w) ∷ []) a in
    let h = facts_follow p t front rest σ v e s b.0 in
    let o : is_open front n (Some w) ≡ true = subst (λ (q : Option ℕ). is_open front n q ≡ true) b.1.0 (true_open σ front n h) in
    true≢false (sym o ∙ x)
