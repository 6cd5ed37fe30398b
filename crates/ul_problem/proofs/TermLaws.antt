-- Laws of sets, terms and lists of terms.
use Rattle.std.proofs.Common.{◌≡◌, ℕ, List, [], ◌∷◌, Bool, true, false, cond, not, Option, Some, None, refl, ap, ◌∙◌, sym, ◌<◌, ◌≤◌, arith, nat_eq, eq-eqb, subst}
use Rattle.std.proofs.lemmas.Bool.{eqb-true}
use Rattle.ul_ranges.specs.Flags.{has, is_blank}
use Rattle.ul_ranges.proofs.ForCallers.{has-both, has-either, has-less, blank_none}
use Rattle.ul_problem.specs.Terms.{Selection, is_among, node_of, allows, holds, all_hold, meet_of, join_of, negation, term_on, may_hold, IsOrdered, IsOrderedFrom}
use Rattle.ul_problem.specs.Steps.{term_to_say, met_terms}
use Rattle.ul_problem.specs.declared.term.Term.{Term}
use Rattle.ul_problem.specs.declared.term.Term.TheVariants.{In, NotIn}

meet_in_not : (x y : Bool) → cond y false x ≡ cond x (not y) false
meet_in_not true true = refl
meet_in_not true false = refl
meet_in_not false true = refl
meet_in_not false false = refl

meet_not_in : (x y : Bool) → cond x false y ≡ cond (not x) y false
meet_not_in true true = refl
meet_not_in true false = refl
meet_not_in false true = refl
meet_not_in false false = refl

meet_not_not : (x y : Bool) → not (cond x true y) ≡ cond (not x) (not y) false
meet_not_not true true = refl
meet_not_not true false = refl
meet_not_not false true = refl
meet_not_not false false = refl

-- a met term holds where both do
pub allows-meet : (t u : Term) (o : Option ℕ) → allows (meet_of t u) o ≡ cond (allows t o) (allows u o) false
allows-meet (In n s) (In m t) None = refl
allows-meet (In n s) (In m t) (Some v) = has-both v s t
allows-meet (In n s) (NotIn m t) None = refl
allows-meet (In n s) (NotIn m t) (Some v) = has-less v s t ∙ meet_in_not (has v s) (has v t)
allows-meet (NotIn n s) (In m t) None = refl
allows-meet (NotIn n s) (In m t) (Some v) = has-less v t s ∙ meet_not_in (has v s) (has v t)
allows-meet (NotIn n s) (NotIn m t) None = refl
allows-meet (NotIn n s) (NotIn m t) (Some v) = ap not (has-either v s t) ∙ meet_not_not (has v s) (has v t)

join_in_not : (x y : Bool) → not (cond x false y) ≡ cond x true (not y)
join_in_not true true = refl
join_in_not true false = refl
join_in_not false true = refl
join_in_not false false = refl

join_not_in : (x y : Bool) → not (cond y false x) ≡ cond (not x) true y
join_not_in true true = refl
join_not_in true false = refl
join_not_in false true = refl
join_not_in false false = refl

join_not_not : (x y : Bool) → not (cond x y false) ≡ cond (not x) true (not y)
join_not_not true true = refl
join_not_not true false = refl
join_not_not false true = refl
join_not_not false false = refl

-- a joined term holds where one does
pub allows-join : (t u : Term) (o : Option ℕ) → allows (join_of t u) o ≡ cond (allows t o) true (allows u o)
allows-join (In n s) (In m t) None = refl
allows-join (In n s) (In m t) (Some v) = has-either v s t
allows-join (In n s) (NotIn m t) None = refl
allows-join (In n s) (NotIn m t) (Some v) = ap not (has-less v t s) ∙ join_in_not (has v s) (has v t)
allows-join (NotIn n s) (In m t) None = refl
allows-join (NotIn n s) (In m t) (Some v) = ap not (has-less v s t) ∙ join_not_in (has v s) (has v t)
allows-join (NotIn n s) (NotIn m t) None = refl
allows-join (NotIn n s) (NotIn m t) (Some v) = ap not (has-both v s t) ∙ join_not_not (has v s) (has v t)

not_not : (b : Bool) → b ≡ not (not b)
not_not true = refl
not_not false = refl

-- a negation holds where the term doesn't
pub allows-negation : (t : Term) (o : Option ℕ) → allows (negation t) o ≡ not (allows t o)
allows-negation (In n s) o = refl
allows-negation (NotIn n s) o = not_not (is_among o s)

-- a term that is left out always holds
written_not : (n : ℕ) (s : List Bool) (o : Option ℕ) (b : Bool) → is_blank s ≡ b → may_hold (cond b None (Some (NotIn n s))) o ≡ not (is_among o s)
written_not n s o false e = refl
written_not n s None true e = refl
written_not n s (Some v) true e = sym (ap not (blank_none s e v))

pub may_hold-written : (t : Term) (o : Option ℕ) → may_hold (term_to_say t) o ≡ allows t o
may_hold-written (In n s) o = refl
may_hold-written (NotIn n s) o = written_not n s o (is_blank s) refl

-- the term of a node, of a list whose terms all hold, holds
at_head : (σ : Selection) (t : Term) (r : Option Term) (k : ℕ) (b : Bool) → nat_eq (node_of t) k ≡ b → holds σ t ≡ true → may_hold r (σ k) ≡ true → may_hold (cond b (Some t) r) (σ k) ≡ true
at_head σ t r k true e h i = let same : node_of t ≡ k = eqb-true (node_of t) k e in subst (λ (m : ℕ). allows t (σ m) ≡ true) same h
at_head σ t r k false e h i = i

pub and_left' : (x y : Bool) → cond x y false ≡ true → x ≡ true
and_left' true y e = refl
and_left' false y e = cc

pub and_right' : (x y : Bool) → cond x y false ≡ true → y ≡ true
and_right' true y e = e
and_right' false y e = cc

pub and_both : (x y : Bool) → x ≡ true → y ≡ true → cond x y false ≡ true
and_both true y e f = f
and_both false y e f = cc

pub all_at : (σ : Selection) (ts : List Term) → all_hold σ ts ≡ true → (k : ℕ) → may_hold (term_on k ts) (σ k) ≡ true
all_at σ [] h k = refl
all_at σ (t ∷ ts) h k = at_head σ t (term_on k ts) k (nat_eq (node_of t) k) refl (and_left' (holds σ t) (all_hold σ ts) h) (all_at σ ts (and_right' (holds σ t) (all_hold σ ts) h) k)

-- no term of later nodes is on an earlier one
later : (t : Term) (k low : ℕ) (r : Option Term) (b : Bool) → nat_eq (node_of t) k ≡ b → low < node_of t → k ≤ low → r ≡ None → cond b (Some t) r ≡ None
later t k low r true e h i n = let same : node_of t ≡ k = eqb-true (node_of t) k e in absurd (omega arith)
later t k low r false e h i n = n

pub term_on-before : (ts : List Term) (k low : ℕ) → IsOrderedFrom low ts → k ≤ low → term_on k ts ≡ None
term_on-before [] k low h i = refl
term_on-before (t ∷ ts) k low h i = later t k low (term_on k ts) (nat_eq (node_of t) k) refl h.0 i (term_on-before ts k (node_of t) h.1 (omega (arith, h.0)))

pub ordered_more : (low : ℕ) (ts : List Term) → IsOrderedFrom low ts → IsOrdered ts
ordered_more low [] h = tt
ordered_more low (t ∷ ts) h = h.1

-- terms that hold on each node all hold
here : (t : Term) (o : Option ℕ) (r : Option Term) (b : Bool) → b ≡ true → may_hold (cond b (Some t) r) o ≡ true → allows t o ≡ true
here t o r true e h = h
here t o r false e h = cc

rest_at : (σ : Selection) (t : Term) (ts : List Term) (k : ℕ) (b : Bool) → nat_eq (node_of t) k ≡ b → IsOrderedFrom (node_of t) ts → may_hold (cond b (Some t) (term_on k ts)) (σ k) ≡ true → may_hold (term_on k ts) (σ k) ≡ true
rest_at σ t ts k true e o h =
    let same : node_of t ≡ k = eqb-true (node_of t) k e in
    let none : term_on k ts ≡ None = term_on-before ts k (node_of t) o (omega arith) in
    rw none refl
rest_at σ t ts k false e o h = h

pub all_from : (σ : Selection) (ts : List Term) → IsOrdered ts → ((k : ℕ) → may_hold (term_on k ts) (σ k) ≡ true) → all_hold σ ts ≡ true
all_from σ [] o h = refl
all_from σ (t ∷ ts) o h =
    and_both (holds σ t) (all_hold σ ts)
    (here t (σ (node_of t)) (term_on (node_of t) ts) (nat_eq (node_of t) (node_of t)) (eq-eqb (node_of t) (node_of t) refl) (h (node_of t)))
    (all_from σ ts (ordered_more (node_of t) ts o) (λ k. rest_at σ t ts k (nat_eq (node_of t) k) refl o (h k)))

-- what a resolvent's term on a node tells of the two
pub met_parts : (t u : Option Term) (o : Option ℕ) → may_hold (met_terms t u) o ≡ true → (may_hold t o ≡ true) × (may_hold u o ≡ true)
met_parts None u o h = (refl, h)
met_parts (Some t) None o h = (h, refl)
met_parts (Some t) (Some u) o h =
    let e : cond (allows t o) (allows u o) false ≡ true = sym (allows-meet t u o) ∙ (sym (may_hold-written (meet_of t u) o) ∙ h) in
    (and_left' (allows t o) (allows u o) e, and_right' (allows t o) (allows u o) e)
