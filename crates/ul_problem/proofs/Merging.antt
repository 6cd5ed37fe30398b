-- The merge of two lists of terms, and that a resolvent is the only one.
use Rattle.std.proofs.Common.{◌≡◌, ℕ, zero, suc, ◌+◌, List, [], ◌∷◌, ◌++◌, Bool, true, false, cond, Option, Some, None, refl, ap, ◌∙◌, sym, ◌<◌, ◌≤◌, ◌⊎◌, inl, inr, length, arith, nat_eq, nat_lt, eq-eqb, subst, drop, take, ◌-◌, length-drop, drop-drop}
use Rattle.std.proofs.lemmas.Bool.{eqb-true, eqb-false, ne_eqb, ltb-true, ltb-false, cases_order}
use Rattle.std.proofs.lemmas.Option.{none-some, same_Some}
use Rattle.std.proofs.lemmas.List.{append-nil, take_all}
use Rattle.std.specs.Prelude.{slice_get, IsTrue, ◌↔◌}
use Rattle.std.specs.Option.{option_to_list}
use Rattle.ul_ranges.specs.Flags.{is_blank}
use Rattle.ul_problem.specs.Terms.{node_of, meet_of, join_of, term_on, IsOrdered, IsOrderedFrom}
use Rattle.ul_problem.specs.Steps.{term_to_say, met_terms, joined_terms, resolvent_term, IsResolvent}
use Rattle.ul_problem.specs.Turns.{lone_of, turn_of, left_turn, right_turn, both_turn}
use Rattle.ul_problem.specs.declared.term.Term.{Term}
use Rattle.ul_problem.specs.declared.term.Term.TheVariants.{In, NotIn}
use Rattle.ul_problem.specs.declared.resolving.Turn.{Turn}
use Rattle.ul_problem.proofs.TermLaws.{term_on-before, ordered_more}

abbrev pub or_else : Option Term → Option Term → Option Term
or_else None u = u
or_else (Some t) u = Some t

or_none : (r : Option Term) → or_else r None ≡ r
or_none None = refl
or_none (Some t) = refl

-- each node is below
abbrev pub AreBelow : ℕ → List Term → Type 0
AreBelow low [] = Unit {0}
AreBelow low (t ∷ ts) = (node_of t < low) × AreBelow low ts

-- in order, with no node below
abbrev pub IsOrderedAt : ℕ → List Term → Type 0
IsOrderedAt low [] = Unit {0}
IsOrderedAt low (t ∷ ts) = (low ≤ node_of t) × IsOrderedFrom (node_of t) ts

abbrev pub IsOn : ℕ → Option Term → Type 0
IsOn n None = Unit {0}
IsOn n (Some t) = node_of t ≡ n

pub record IsMerging (m : ℕ) (left right out l r : List Term) : Type 0 where
  pub low : ℕ
  pub below : AreBelow low out
  pub is_ordered : IsOrdered out
  pub on_left : IsOrderedAt low l
  pub on_right : IsOrderedAt low r
  pub each : (k : ℕ) → resolvent_term m k (term_on k left) (term_on k right) ≡ or_else (term_on k out) (resolvent_term m k (term_on k l) (term_on k r))

-- the term on a node
term_on-append : (k : ℕ) (xs ys : List Term) → term_on k (xs ++ ys) ≡ or_else (term_on k xs) (term_on k ys)
term_on-append k [] ys = refl
term_on-append k (x ∷ xs) ys = which (nat_eq (node_of x) k) (term_on-append k xs ys)
  where
    which : (b : Bool) → term_on k (xs ++ ys) ≡ or_else (term_on k xs) (term_on k ys) → cond b (Some x) (term_on k (xs ++ ys)) ≡ or_else (cond b (Some x) (term_on k xs)) (term_on k ys)
    which true h = refl
    which false h = h

pub on_here : (t : Term) (k : ℕ) (ts : List Term) → node_of t ≡ k → term_on k (t ∷ ts) ≡ Some t
on_here t k ts e = ap (λ (b : Bool). cond b (Some t) (term_on k ts)) (eq-eqb (node_of t) k e)

pub on_past : (t : Term) (k : ℕ) (ts : List Term) → (node_of t ≡ k → ⊥) → term_on k (t ∷ ts) ≡ term_on k ts
on_past t k ts n = ap (λ (b : Bool). cond b (Some t) (term_on k ts)) (ne_eqb (node_of t) k n)

below_none : (low k : ℕ) (ts : List Term) → AreBelow low ts → low ≤ k → term_on k ts ≡ None
below_none low k [] h i = refl
below_none low k (t ∷ ts) h i = on_past t k ts (λ e. omega (arith, h.0)) ∙ below_none low k ts h.1 i

one_on : (n : ℕ) (x : Option Term) → IsOn n x → term_on n (option_to_list x) ≡ x
one_on n None h = refl
one_on n (Some t) h = on_here t n [] h

one_off : (n k : ℕ) (x : Option Term) → IsOn n x → (n ≡ k → ⊥) → term_on k (option_to_list x) ≡ None
one_off n k None h i = refl
one_off n k (Some t) h i = on_past t k [] (λ e. i (sym h ∙ e))

none_resolved : (m k : ℕ) → resolvent_term m k None None ≡ None
none_resolved m k = which (nat_eq k m)
  where
    which : (b : Bool) → cond b (joined_terms None None) (met_terms None None) ≡ None
    which true = refl
    which false = refl

-- what is written so far stays in order
below_more : (low n : ℕ) (ts : List Term) (x : Option Term) → AreBelow low ts → low ≤ n → IsOn n x → AreBelow (suc n) (ts ++ option_to_list x)
below_more low n [] None h i o = tt
below_more low n [] (Some t) h i o = (omega (arith, o), tt)
below_more low n (t ∷ ts) x h i o = (omega (arith, h.0), below_more low n ts x h.1 i o)

from_more : (low n : ℕ) (first : ℕ) (ts : List Term) (x : Option Term) → IsOrderedFrom first ts → first < n → AreBelow low ts → low ≤ n → IsOn n x → IsOrderedFrom first (ts ++ option_to_list x)
from_more low n first [] None h f b i o = tt
from_more low n first [] (Some t) h f b i o = (omega (arith, o), tt)
from_more low n first (t ∷ ts) x h f b i o = (h.0, from_more low n (node_of t) ts x h.1 (omega (arith, b.0)) b.1 i o)

ordered_one : (low n : ℕ) (ts : List Term) (x : Option Term) → IsOrdered ts → AreBelow low ts → low ≤ n → IsOn n x → IsOrdered (ts ++ option_to_list x)
ordered_one low n [] None h b i o = tt
ordered_one low n [] (Some t) h b i o = tt
ordered_one low n (t ∷ ts) x h b i o = from_more low n (node_of t) ts x h (omega (arith, b.0)) b.1 i o

at_from : (n : ℕ) (ts : List Term) → IsOrderedFrom n ts → IsOrderedAt (suc n) ts
at_from n [] h = tt
at_from n (t ∷ ts) h = (omega (arith, h.0), h.1)

-- one turn that takes the terms on a node
step : (m n : ℕ) (left right out l r l' r' : List Term) (x : Option Term) → (s : IsMerging m left right out l r) → s.low ≤ n
    → IsOrderedFrom n l' → IsOrderedFrom n r' → IsOn n x → x ≡ resolvent_term m n (term_on n l) (term_on n r)
    → ((k : ℕ) → (n ≡ k → ⊥) → term_on k l ≡ term_on k l') → ((k : ℕ) → (n ≡ k → ⊥) → term_on k r ≡ term_on k r')
    → IsMerging m left right (out ++ option_to_list x) l' r'
step m n left right out l r l' r' x s i ol or on is sl sr = record {
  low = suc n;
  below = below_more s.low n out x s.below i on;
  is_ordered = ordered_one s.low n out x s.is_ordered s.below i on;
  on_left = at_from n l' ol;
  on_right = at_from n r' or;
  each = λ k. elim (cases_order n k) [ inl e ↦ here k e | inr h ↦ there k (λ e. elim h [ inl a ↦ omega arith | inr b ↦ omega arith ]) ];
}
  where
    last : (k : ℕ) → or_else (term_on k (out ++ option_to_list x)) (resolvent_term m k (term_on k l') (term_on k r')) ≡ or_else (or_else (term_on k out) (term_on k (option_to_list x))) (resolvent_term m k (term_on k l') (term_on k r'))
    last k = ap (λ (o : Option Term). or_else o (resolvent_term m k (term_on k l') (term_on k r'))) (term_on-append k out (option_to_list x))

    at_n : resolvent_term m n (term_on n left) (term_on n right) ≡ or_else (term_on n (out ++ option_to_list x)) (resolvent_term m n (term_on n l') (term_on n r'))
    at_n =
        let e : term_on n out ≡ None = below_none s.low n out s.below i in
        let a : resolvent_term m n (term_on n left) (term_on n right) ≡ x = s.each n ∙ (ap (λ (o : Option Term). or_else o (resolvent_term m n (term_on n l) (term_on n r))) e ∙ sym is) in
        let fl : term_on n l' ≡ None = term_on-before l' n n ol (omega arith) in
        let fr : term_on n r' ≡ None = term_on-before r' n n or (omega arith) in
        let b : or_else (term_on n out) (term_on n (option_to_list x)) ≡ x = ap (λ (o : Option Term). or_else o (term_on n (option_to_list x))) e ∙ one_on n x on in
        let c : resolvent_term m n (term_on n l') (term_on n r') ≡ None = ap (λ (o : Option Term). resolvent_term m n o (term_on n r')) fl ∙ (ap (λ (o : Option Term). resolvent_term m n None o) fr ∙ none_resolved m n) in
        let d : or_else (or_else (term_on n out) (term_on n (option_to_list x))) (resolvent_term m n (term_on n l') (term_on n r')) ≡ x = ap (λ (o : Option Term). or_else o (resolvent_term m n (term_on n l') (term_on n r'))) b ∙ (ap (λ (o : Option Term). or_else x o) c ∙ or_none x) in
        a ∙ sym (last n ∙ d)

    here : (k : ℕ) → n ≡ k → resolvent_term m k (term_on k left) (term_on k right) ≡ or_else (term_on k (out ++ option_to_list x)) (resolvent_term m k (term_on k l') (term_on k r'))
    here k e = subst (λ (j : ℕ). resolvent_term m j (term_on j left) (term_on j right) ≡ or_else (term_on j (out ++ option_to_list x)) (resolvent_term m j (term_on j l') (term_on j r'))) e at_n

    there : (k : ℕ) → (n ≡ k → ⊥) → resolvent_term m k (term_on k left) (term_on k right) ≡ or_else (term_on k (out ++ option_to_list x)) (resolvent_term m k (term_on k l') (term_on k r'))
    there k ne =
        let e : term_on k (option_to_list x) ≡ None = one_off n k x on ne in
        let b : or_else (term_on k out) (term_on k (option_to_list x)) ≡ term_on k out = ap (λ (o : Option Term). or_else (term_on k out) o) e ∙ or_none (term_on k out) in
        let c : resolvent_term m k (term_on k l) (term_on k r) ≡ resolvent_term m k (term_on k l') (term_on k r') = ap (λ (o : Option Term). resolvent_term m k o (term_on k r)) (sl k ne) ∙ ap (λ (o : Option Term). resolvent_term m k (term_on k l') o) (sr k ne) in
        s.each k ∙ (ap (λ (o : Option Term). or_else (term_on k out) o) c ∙ sym (last k ∙ ap (λ (o : Option Term). or_else o (resolvent_term m k (term_on k l') (term_on k r'))) b))

-- the three turns
lone_on : (m : ℕ) (t : Term) → IsOn (node_of t) (lone_of m t)
lone_on m t = which (nat_eq (node_of t) m)
  where
    which : (b : Bool) → IsOn (node_of t) (cond b None (Some t))
    which true = tt
    which false = refl

lone_left : (m : ℕ) (t : Term) → lone_of m t ≡ resolvent_term m (node_of t) (Some t) None
lone_left m t = which (nat_eq (node_of t) m)
  where
    which : (b : Bool) → cond b None (Some t) ≡ cond b (joined_terms (Some t) None) (met_terms (Some t) None)
    which true = refl
    which false = refl

lone_right : (m : ℕ) (t : Term) → lone_of m t ≡ resolvent_term m (node_of t) None (Some t)
lone_right m t = which (nat_eq (node_of t) m)
  where
    which : (b : Bool) → cond b None (Some t) ≡ cond b (joined_terms None (Some t)) (met_terms None (Some t))
    which true = refl
    which false = refl

written_on : (t : Term) → IsOn (node_of t) (term_to_say t)
written_on (In n s) = refl
written_on (NotIn n s) = which (is_blank s)
  where
    which : (b : Bool) → IsOn n (cond b None (Some (NotIn n s)))
    which true = tt
    which false = refl

pub meet_node : (t u : Term) → node_of (meet_of t u) ≡ node_of t
meet_node (In n s) (In m t) = refl
meet_node (In n s) (NotIn m t) = refl
meet_node (NotIn n s) (In m t) = refl
meet_node (NotIn n s) (NotIn m t) = refl

pub join_node : (t u : Term) → node_of (join_of t u) ≡ node_of t
join_node (In n s) (In m t) = refl
join_node (In n s) (NotIn m t) = refl
join_node (NotIn n s) (In m t) = refl
join_node (NotIn n s) (NotIn m t) = refl

both_on : (m : ℕ) (t u : Term) → IsOn (node_of t) (resolvent_term m (node_of t) (Some t) (Some u))
both_on m t u = which (nat_eq (node_of t) m)
  where
    which : (b : Bool) → IsOn (node_of t) (cond b (term_to_say (join_of t u)) (term_to_say (meet_of t u)))
    which true = subst (λ (n : ℕ). IsOn n (term_to_say (join_of t u))) (join_node t u) (written_on (join_of t u))
    which false = subst (λ (n : ℕ). IsOn n (term_to_say (meet_of t u))) (meet_node t u) (written_on (meet_of t u))

left_step : (m : ℕ) (left right out l' r : List Term) (t : Term) → IsMerging m left right out (t ∷ l') r → IsOrderedFrom (node_of t) r
    → IsMerging m left right (out ++ option_to_list (lone_of m t)) l' r
left_step m left right out l' r t s above = step m (node_of t) left right out (t ∷ l') r l' r (lone_of m t) s s.on_left.0 s.on_left.1 above (lone_on m t)
    (lone_left m t ∙ sym (ap (λ (o : Option Term). resolvent_term m (node_of t) o (term_on (node_of t) r)) (on_here t (node_of t) l' refl)
    ∙ ap (λ (o : Option Term). resolvent_term m (node_of t) (Some t) o) (term_on-before r (node_of t) (node_of t) above (omega arith))))
    (λ k n. on_past t k l' n) (λ k n. refl)

right_step : (m : ℕ) (left right out l r' : List Term) (u : Term) → IsMerging m left right out l (u ∷ r') → IsOrderedFrom (node_of u) l
    → IsMerging m left right (out ++ option_to_list (lone_of m u)) l r'
right_step m left right out l r' u s above = step m (node_of u) left right out l (u ∷ r') l r' (lone_of m u) s s.on_right.0 above s.on_right.1 (lone_on m u)
    (lone_right m u ∙ sym (ap (λ (o : Option Term). resolvent_term m (node_of u) o (term_on (node_of u) (u ∷ r'))) (term_on-before l (node_of u) (node_of u) above (omega arith))
    ∙ ap (λ (o : Option Term). resolvent_term m (node_of u) None o) (on_here u (node_of u) r' refl)))
    (λ k n. refl) (λ k n. on_past u k r' n)

both_step : (m : ℕ) (left right out l' r' : List Term) (t u : Term) → IsMerging m left right out (t ∷ l') (u ∷ r') → node_of t ≡ node_of u
    → IsMerging m left right (out ++ option_to_list (resolvent_term m (node_of t) (Some t) (Some u))) l' r'
both_step m left right out l' r' t u s e = step m (node_of t) left right out (t ∷ l') (u ∷ r') l' r' (resolvent_term m (node_of t) (Some t) (Some u)) s s.on_left.0 s.on_left.1
    (subst (λ (n : ℕ). IsOrderedFrom n r') (sym e) s.on_right.1) (both_on m t u)
    (sym (ap (λ (o : Option Term). resolvent_term m (node_of t) o (term_on (node_of t) (u ∷ r'))) (on_here t (node_of t) l' refl)
    ∙ ap (λ (o : Option Term). resolvent_term m (node_of t) (Some t) o) (on_here u (node_of t) r' (sym e))))
    (λ k n. on_past t k l' n) (λ k n. on_past u k r' (λ f. n (e ∙ f)))

abbrev pub head_of : List Term → Option Term
head_of [] = None
head_of (t ∷ ts) = Some t

abbrev pub IsMerged : ℕ → List Term → List Term → List Term → List Term → List Term → Turn → Type 0
IsMerged m left right out l r turn = IsMerging m left right (out ++ option_to_list turn.term) (drop turn.left l) (drop turn.right r)

two_turns : (m : ℕ) (left right out l' r' : List Term) (t u : Term) (b c : Bool) → nat_eq (node_of t) (node_of u) ≡ b → nat_lt (node_of u) (node_of t) ≡ c
    → IsMerging m left right out (t ∷ l') (u ∷ r') → IsMerged m left right out (t ∷ l') (u ∷ r') (cond b (both_turn m t u) (cond c (right_turn m u) (left_turn m t)))
two_turns m left right out l' r' t u true c e f s = both_step m left right out l' r' t u s (eqb-true (node_of t) (node_of u) e)
two_turns m left right out l' r' t u false true e f s = right_step m left right out (t ∷ l') r' u s (ltb-true (node_of u) (node_of t) f, s.on_left.1)
two_turns m left right out l' r' t u false false e f s =
    let a : node_of t ≤ node_of u = ltb-false (node_of u) (node_of t) f in
    let b : node_of t ≡ node_of u → ⊥ = eqb-false (node_of t) (node_of u) e in
    left_step m left right out l' (u ∷ r') t s (strict (cases_order (node_of t) (node_of u)) a b, s.on_right.1)
  where
    strict : (node_of t ≡ node_of u) ⊎ ((node_of t < node_of u) ⊎ (node_of u < node_of t)) → node_of t ≤ node_of u → (node_of t ≡ node_of u → ⊥) → node_of t < node_of u
    strict (inl g) a b = absurd (b g)
    strict (inr (inl g)) a b = g
    strict (inr (inr g)) a b = absurd (omega arith)

pub turned : (m : ℕ) (left right out l r : List Term) → IsMerging m left right out l r → IsMerged m left right out l r (turn_of m (head_of l) (head_of r))
turned m left right out [] [] s = subst (λ (ts : List Term). IsMerging m left right ts [] []) (sym (append-nil out)) s
turned m left right out [] (u ∷ r') s = right_step m left right out [] r' u s tt
turned m left right out (t ∷ l') [] s = left_step m left right out l' [] t s tt
turned m left right out (t ∷ l') (u ∷ r') s = two_turns m left right out l' r' t u (nat_eq (node_of t) (node_of u)) (nat_lt (node_of u) (node_of t)) refl refl s

at_zero : (ts : List Term) → IsOrdered ts → IsOrderedAt 0 ts
at_zero [] h = tt
at_zero (t ∷ ts) h = (omega arith, h)

pub merging_starts : (m : ℕ) (left right : List Term) → IsOrdered left → IsOrdered right → IsMerging m left right [] left right
merging_starts m left right a b = record { low = 0; below = tt; is_ordered = tt; on_left = at_zero left a; on_right = at_zero right b; each = λ k. refl }

pub merging_ends : (m : ℕ) (left right out : List Term) → IsMerging m left right out [] [] → IsResolvent m left right out
merging_ends m left right out s = record {
  is_ordered = s.is_ordered;
  each = λ k. sym (s.each k ∙ (ap (λ (o : Option Term). or_else (term_on k out) o) (none_resolved m k) ∙ or_none (term_on k out)));
}

-- two lists in order with the same term on each node are equal
pub same_terms_on : (ts us : List Term) → IsOrdered ts → IsOrdered us → ((k : ℕ) → term_on k ts ≡ term_on k us) → ts ≡ us
same_terms_on [] [] a b h = refl
same_terms_on [] (u ∷ us) a b h = absurd (none-some u (h (node_of u) ∙ on_here u (node_of u) us refl))
same_terms_on (t ∷ ts) [] a b h = absurd (none-some t (sym (h (node_of t)) ∙ on_here t (node_of t) ts refl))
same_terms_on (t ∷ ts) (u ∷ us) a b h = which (cases_order (node_of t) (node_of u)) (λ f. same_terms_on ts us (ordered_more (node_of t) ts a) (ordered_more (node_of u) us b) f)
  where
    first : Some t ≡ term_on (node_of t) (u ∷ us)
    first = sym (on_here t (node_of t) ts refl) ∙ h (node_of t)

    second : term_on (node_of u) (t ∷ ts) ≡ Some u
    second = h (node_of u) ∙ on_here u (node_of u) us refl

    tails : node_of t ≡ node_of u → (k : ℕ) → (node_of t ≡ k) ⊎ ((node_of t < k) ⊎ (k < node_of t)) → term_on k ts ≡ term_on k us
    tails e k (inl f) = term_on-before ts k (node_of t) a (omega arith) ∙ sym (term_on-before us k (node_of u) b (omega arith))
    tails e k (inr o) =
        let n : node_of t ≡ k → ⊥ = λ f. elim o [ inl g ↦ omega arith | inr g ↦ omega arith ] in
        sym (on_past t k ts n) ∙ (h k ∙ on_past u k us (λ f. n (e ∙ f)))

    which : (node_of t ≡ node_of u) ⊎ ((node_of t < node_of u) ⊎ (node_of u < node_of t)) → (((k : ℕ) → term_on k ts ≡ term_on k us) → ts ≡ us) → t ∷ ts ≡ u ∷ us
    which (inl e) more =
        let f : t ≡ u = same_Some t u (first ∙ on_here u (node_of t) us (sym e)) in
        let g : ts ≡ us = more (λ k. tails e k (cases_order (node_of t) k)) in
        λ i. f i ∷ g i
    which (inr (inl g)) more = absurd (none-some t (sym (first ∙ (on_past u (node_of t) us (λ e. omega arith) ∙ term_on-before us (node_of t) (node_of u) b (omega arith)))))
    which (inr (inr g)) more = absurd (none-some u (sym (on_past t (node_of u) ts (λ e. omega arith) ∙ term_on-before ts (node_of u) (node_of t) a (omega arith)) ∙ second))

-- a resolvent is the only one
pub one_resolvent : (m : ℕ) (left right ts us : List Term) → IsResolvent m left right ts → IsResolvent m left right us → ts ≡ us
one_resolvent m left right ts us a b = same_terms_on ts us a.is_ordered b.is_ordered (λ k. a.each k ∙ sym (b.each k))

-- the resolvent compared with a list
pub wanted_same : (m : ℕ) (left right wanted read ts : List Term) (b : Bool) → IsResolvent m left right wanted → read ≡ wanted → (IsTrue b ↔ (read ≡ ts)) → IsTrue b ↔ IsResolvent m left right ts
wanted_same m left right wanted read ts b res e t = (
  λ g. subst (λ (x : List Term). IsResolvent m left right x) (sym e ∙ t.0 g) res,
  λ r. t.1 (e ∙ one_resolvent m left right wanted ts res r),
)

-- the loop of a merge
pub record Merges (m : ℕ) (left right out : List Term) (i j : ℕ) : Type 0 where
  pub within_left : i ≤ length left
  pub within_right : j ≤ length right
  pub merging : IsMerging m left right out (drop i left) (drop j right)

head_at : (ts : List Term) → head_of ts ≡ slice_get ts 0
head_at [] = refl
head_at (t ∷ ts) = refl

drop_on : (i k : ℕ) (ts : List Term) → drop k (drop i ts) ≡ drop (i + k) ts
drop_on i k ts = drop-drop k i ts

-- the first of the rest of a list
pub first_of_rest : (o : Option Term) (ts : List Term) (i : ℕ) → o ≡ slice_get (take (length ts - i) (drop i ts)) 0 → o ≡ slice_get (drop i ts) 0
first_of_rest o ts i e = e ∙ ap (λ (x : List Term). slice_get x 0) (take_all (length ts - i) (drop i ts) (omega (arith, length-drop i ts)))

turn_within : (m : ℕ) (l r : List Term) → ((turn_of m (head_of l) (head_of r)).left ≤ length l) × ((turn_of m (head_of l) (head_of r)).right ≤ length r)
turn_within m [] [] = (omega arith, omega arith)
turn_within m [] (u ∷ r) = (omega arith, omega arith)
turn_within m (t ∷ l) [] = (omega arith, omega arith)
turn_within m (t ∷ l) (u ∷ r) = which (nat_eq (node_of t) (node_of u)) (nat_lt (node_of u) (node_of t))
  where
    which : (b c : Bool) → ((cond b (both_turn m t u) (cond c (right_turn m u) (left_turn m t))).left ≤ length (t ∷ l)) × ((cond b (both_turn m t u) (cond c (right_turn m u) (left_turn m t))).right ≤ length (u ∷ r))
    which true c = (omega arith, omega arith)
    which false true = (omega arith, omega arith)
    which false false = (omega arith, omega arith)

pub merges_turn : (m : ℕ) (left right out : List Term) (i j : ℕ) (a b : Option Term) (turn : Turn) → Merges m left right out i j
    → a ≡ slice_get (drop i left) 0 → b ≡ slice_get (drop j right) 0 → turn ≡ turn_of m a b
    → Merges m left right (out ++ option_to_list turn.term) (i + turn.left) (j + turn.right)
merges_turn m left right out i j a b turn s e f g =
    let h : turn ≡ turn_of m (head_of (drop i left)) (head_of (drop j right)) = g ∙ (ap (λ (o : Option Term). turn_of m o b) (e ∙ sym (head_at (drop i left))) ∙ ap (λ (o : Option Term). turn_of m (head_of (drop i left)) o) (f ∙ sym (head_at (drop j right)))) in
    let w = turn_within m (drop i left) (drop j right) in
    let wl : turn.left ≤ length (drop i left) = subst (λ (x : Turn). x.left ≤ length (drop i left)) (sym h) w.0 in
    let wr : turn.right ≤ length (drop j right) = subst (λ (x : Turn). x.right ≤ length (drop j right)) (sym h) w.1 in
    let t : IsMerged m left right out (drop i left) (drop j right) turn = subst (λ (x : Turn). IsMerged m left right out (drop i left) (drop j right) x) (sym h) (turned m left right out (drop i left) (drop j right) s.merging) in
    record {
      within_left = omega (arith, length-drop i left, s.within_left, wl);
      within_right = omega (arith, length-drop j right, s.within_right, wr);
      merging = subst (λ (x : List Term). IsMerging m left right (out ++ option_to_list turn.term) (drop (i + turn.left) left) x) (drop_on j turn.right right)
          (subst (λ (x : List Term). IsMerging m left right (out ++ option_to_list turn.term) x (drop turn.right (drop j right))) (drop_on i turn.left left) t);
    }

pub merges_more : (m : ℕ) (left right out more : List Term) (i j : ℕ) (a b : Option Term) (turn : Turn) → Merges m left right out i j
    → a ≡ slice_get (drop i left) 0 → b ≡ slice_get (drop j right) 0 → turn ≡ turn_of m a b → more ≡ out ++ option_to_list turn.term
    → Merges m left right more (i + turn.left) (j + turn.right)
merges_more m left right out more i j a b turn s e f g h =
    subst (λ (x : List Term). Merges m left right x (i + turn.left) (j + turn.right)) (sym h) (merges_turn m left right out i j a b turn s e f g)

-- the merge begins with nothing written, and ends where nothing is left
pub merges_start : (m : ℕ) (left right out : List Term) → out ≡ [] → IsOrdered left → IsOrdered right → Merges m left right out 0 0
merges_start m left right out e a b = record {
  within_left = omega arith;
  within_right = omega arith;
  merging = subst (λ (ts : List Term). IsMerging m left right ts left right) (sym e) (merging_starts m left right a b);
}

none_dropped : (ts : List Term) (i : ℕ) → length ts ≤ i → drop i ts ≡ []
none_dropped [] zero h = refl
none_dropped [] (suc i) h = refl
none_dropped (t ∷ ts) zero h = absurd (omega arith)
none_dropped (t ∷ ts) (suc i) h = none_dropped ts i (omega arith)

pub merges_end : (m : ℕ) (left right out : List Term) (i j : ℕ) → Merges m left right out i j → length left ≤ i → length right ≤ j → IsResolvent m left right out
merges_end m left right out i j s a b =
    merging_ends m left right out (subst (IsMerging m left right out []) (none_dropped right j b) (subst (λ (ts : List Term). IsMerging m left right out ts (drop j right)) (none_dropped left i a) s.merging))
