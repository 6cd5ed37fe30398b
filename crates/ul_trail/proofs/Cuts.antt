-- A cut takes a fact away.
use Rattle.std.proofs.Common.{◌≡◌, ℕ, List, [], ◌∷◌, ◌++◌, Bool, true, false, cond, not, Option, Some, None, refl, ap, ◌∙◌, sym, subst, ◌<◌, inl, inr, arith, nat_eq, eq-eqb}
use Rattle.std.proofs.lemmas.Bool.{eqb-true, ne_eqb, cases_eq, true≢false}
use Rattle.ul_problem.specs.Terms.{node_of, allows, is_among, term_on, may_hold, IsOrdered, IsOrderedFrom, meet_of, join_of, negation}
use Rattle.ul_problem.specs.Steps.{IsResolvent, met_terms, joined_terms}
use Rattle.ul_problem.specs.declared.term.Term.{Term}
use Rattle.ul_problem.specs.declared.term.Term.TheVariants.{In, NotIn}
use Rattle.ul_problem.proofs.ForCallers.{allows-meet, allows-join, may_hold-written, term_on-before, ordered_more, and_both}
use Rattle.ul_trail.specs.declared.fact.Fact.{Fact}
use Rattle.ul_trail.specs.Facts.{is_open, IsHeld, AreHeld, AreHeldBut}

-- held, node by node
abbrev pub Covers : List Fact → List Term → ℕ → Type 0
Covers facts ts k = (o : Option ℕ) → is_open facts k o ≡ true → may_hold (term_on k ts) o ≡ true

cover_head : (facts : List Fact) (t : Term) (r : Option Term) (k : ℕ) (b : Bool) → nat_eq (node_of t) k ≡ b → IsHeld facts t → ((o : Option ℕ) → is_open facts k o ≡ true → may_hold r o ≡ true) → (o : Option ℕ) → is_open facts k o ≡ true → may_hold (cond b (Some t) r) o ≡ true
cover_head facts t r k true e h i o x = h o (subst (λ (j : ℕ). is_open facts j o ≡ true) (sym (eqb-true (node_of t) k e)) x)
cover_head facts t r k false e h i o x = i o x

pub held_covers : (facts : List Fact) (ts : List Term) (k : ℕ) → AreHeld facts ts → Covers facts ts k
held_covers facts [] k h o x = refl
held_covers facts (t ∷ ts) k h o x = cover_head facts t (term_on k ts) k (nat_eq (node_of t) k) refl h.0 (held_covers facts ts k h.1) o x

-- where the node isn't the term's, the others cover it
cover_past : (t : Term) (r : Option Term) (k : ℕ) (o : Option ℕ) (b : Bool) → nat_eq (node_of t) k ≡ b → (node_of t ≡ k → ⊥) → may_hold r o ≡ true → may_hold (cond b (Some t) r) o ≡ true
cover_past t r k o true e n h = absurd (n (eqb-true (node_of t) k e))
cover_past t r k o false e n h = h

but_covers : (facts : List Fact) (u : Term) (ts : List Term) (k : ℕ) → (node_of u ≡ k → ⊥) → AreHeldBut facts u ts → Covers facts ts k
but_covers facts u [] k n h o x = absurd h
but_covers facts u (t ∷ ts) k n (inl h) o x = cover_past t (term_on k ts) k o (nat_eq (node_of t) k) refl (λ e. n (sym (ap node_of h.0) ∙ e)) (held_covers facts ts k h.1 o x)
but_covers facts u (t ∷ ts) k n (inr h) o x = cover_head facts t (term_on k ts) k (nat_eq (node_of t) k) refl h.0 (but_covers facts u ts k n h.1) o x

-- the term itself is the list's on its node
head_on : (t : Term) (r : Option Term) (b : Bool) → b ≡ true → cond b (Some t) r ≡ Some t
head_on t r true e = refl
head_on t r false e = absurd (true≢false (sym e))

but_after : (facts : List Fact) (u : Term) (low : ℕ) (ts : List Term) → IsOrderedFrom low ts → AreHeldBut facts u ts → low < node_of u
but_after facts u low [] o h = absurd h
but_after facts u low (t ∷ ts) o (inl h) = subst (λ (x : Term). low < node_of x) h.0 o.0
but_after facts u low (t ∷ ts) o (inr h) = let i = but_after facts u (node_of t) ts o.1 h.1 in omega (arith, i, o.0)

skip_on : (t : Term) (r : Option Term) (k : ℕ) (b : Bool) → nat_eq (node_of t) k ≡ b → node_of t < k → cond b (Some t) r ≡ r
skip_on t r k true e h = let s = eqb-true (node_of t) k e in absurd (omega (arith, s, h))
skip_on t r k false e h = refl

pub but_on : (facts : List Fact) (u : Term) (ts : List Term) → IsOrdered ts → AreHeldBut facts u ts → term_on (node_of u) ts ≡ Some u
but_on facts u [] o h = absurd h
but_on facts u (t ∷ ts) o (inl h) = head_on t (term_on (node_of u) ts) (nat_eq (node_of t) (node_of u)) (eq-eqb (node_of t) (node_of u) (ap node_of h.0)) ∙ ap Some h.0
but_on facts u (t ∷ ts) o (inr h) = skip_on t (term_on (node_of u) ts) (node_of u) (nat_eq (node_of t) (node_of u)) refl (but_after facts u (node_of t) ts o h.1) ∙ but_on facts u ts (ordered_more (node_of t) ts o) h.1

-- covered at each node, all are held
rest_cover : (facts : List Fact) (t : Term) (ts : List Term) (k : ℕ) (o : Option ℕ) (b : Bool) → nat_eq (node_of t) k ≡ b → IsOrderedFrom (node_of t) ts → may_hold (cond b (Some t) (term_on k ts)) o ≡ true → may_hold (term_on k ts) o ≡ true
rest_cover facts t ts k o true e r h =
    let same : node_of t ≡ k = eqb-true (node_of t) k e in
    let none : term_on k ts ≡ None = term_on-before ts k (node_of t) r (omega arith) in rw none refl
rest_cover facts t ts k o false e r h = h

pub covers_held : (facts : List Fact) (ts : List Term) → IsOrdered ts → ((k : ℕ) → Covers facts ts k) → AreHeld facts ts
covers_held facts [] r h = tt
covers_held facts (t ∷ ts) r h = (
  (λ o x. subst (λ (q : Option Term). may_hold q o ≡ true) (head_on t (term_on (node_of t) ts) (nat_eq (node_of t) (node_of t)) (eq-eqb (node_of t) (node_of t) refl)) (h (node_of t) o x)),
  covers_held facts ts (ordered_more (node_of t) ts r) (λ k o x. rest_cover facts t ts k o (nat_eq (node_of t) k) refl r (h k o x)),
)

-- met and joined terms
met_from : (a b : Option Term) (o : Option ℕ) → may_hold a o ≡ true → may_hold b o ≡ true → may_hold (met_terms a b) o ≡ true
met_from None b o h i = i
met_from (Some t) None o h i = h
met_from (Some t) (Some u) o h i = may_hold-written (meet_of t u) o ∙ (allows-meet t u o ∙ and_both (allows t o) (allows u o) h i)

or_from : (x y : Bool) → (x ≡ false → y ≡ true) → cond y true x ≡ true
or_from true true h = refl
or_from true false h = refl
or_from false y h = rw (h refl) refl

joined_from : (t u : Term) (o : Option ℕ) → (allows u o ≡ false → allows t o ≡ true) → may_hold (joined_terms (Some t) (Some u)) o ≡ true
joined_from t u o h = may_hold-written (join_of t u) o ∙ (allows-join t u o ∙ or_from (allows u o) (allows t o) h)

-- what is open with one more fact
pub open_push : (facts : List Fact) (f : Fact) (k : ℕ) (o : Option ℕ) → is_open facts k o ≡ true → (node_of f.term ≡ k → allows f.term o ≡ true) → is_open (facts ++ f ∷ []) k o ≡ true
open_push [] f k o h i = which (nat_eq (node_of f.term) k) refl
  where
    which : (b : Bool) → nat_eq (node_of f.term) k ≡ b → cond b (cond (allows f.term o) true false) true ≡ true
    which true e = rw (i (eqb-true (node_of f.term) k e)) refl
    which false e = refl
open_push (g ∷ facts) f k o h i = both (nat_eq (node_of g.term) k) (allows g.term o) h (λ x. open_push facts f k o x i)
  where
    both : (b c : Bool) → cond b (cond c (is_open facts k o) false) (is_open facts k o) ≡ true → (is_open facts k o ≡ true → is_open (facts ++ f ∷ []) k o ≡ true) → cond b (cond c (is_open (facts ++ f ∷ []) k o) false) (is_open (facts ++ f ∷ []) k o) ≡ true
    both true true h j = j h
    both true false h j = h
    both false c h j = j h

negation_node : (u : Term) → node_of (negation u) ≡ node_of u
negation_node (In n s) = refl
negation_node (NotIn n s) = refl

pub negation_allows : (u : Term) (o : Option ℕ) → allows u o ≡ false → allows (negation u) o ≡ true
negation_allows (In n s) o h = ap not h
negation_allows (NotIn n s) o h = turn (is_among o s) h
  where
    turn : (b : Bool) → not b ≡ false → b ≡ true
    turn true e = refl
    turn false e = sym e

pub cut_held : (front : List Fact) (f : Fact) (left right ts : List Term) (t u : Term)
    → IsOrdered left → IsOrdered right → f.term ≡ negation u → AreHeldBut front u right → AreHeld (front ++ f ∷ []) left
    → term_on (node_of u) left ≡ Some t → IsResolvent (node_of u) left right ts → AreHeld front ts
cut_held front f left right ts t u ol or is but held on r =
    let m : ℕ = node_of u in
    let node : node_of f.term ≡ m = ap node_of is ∙ negation_node u in
    let mine : term_on m right ≡ Some u = but_on front u right or but in
    covers_held front ts r.is_ordered (λ k o x. subst (λ (q : Option Term). may_hold q o ≡ true) (sym (r.each k)) (elim (cases_eq k m) [
      | inl e ↦ (let b : nat_eq k m ≡ true = eq-eqb k m e in
          let tk : term_on k left ≡ Some t = ap (λ (j : ℕ). term_on j left) e ∙ on in
          let uk : term_on k right ≡ Some u = ap (λ (j : ℕ). term_on j right) e ∙ mine in
          rw (b, tk, uk) (joined_from t u o (λ no_u.
          (let more : is_open (front ++ f ∷ []) k o ≡ true = open_push front f k o x (λ i. subst (λ (z : Term). allows z o ≡ true) (sym is) (negation_allows u o no_u)) in
          subst (λ (q : Option Term). may_hold q o ≡ true) tk (held_covers (front ++ f ∷ []) left k held o more)))))
      | inr n ↦ (let b : nat_eq k m ≡ false = ne_eqb k m n in
          rw b (met_from (term_on k left) (term_on k right) o
          (held_covers (front ++ f ∷ []) left k held o (open_push front f k o x (λ i. absurd (n (sym i ∙ node)))))
          (but_covers front u right k (λ i. n (sym i)) but o x)))
    ]))
