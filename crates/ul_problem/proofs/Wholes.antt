-- What a right step says is an incompatibility with the problem's places and sets.
use Rattle.std.proofs.Common.{◌≡◌, ℕ, zero, suc, List, [], ◌∷◌, ◌++◌, Bool, true, false, cond, Option, Some, None, refl, ap, ◌∙◌, sym, ◌<◌, ◌≤◌, ◌⊎◌, inl, inr, length, arith, nat_eq, nat_lt, subst, slice_get, drop}
use Rattle.std.proofs.lemmas.Bool.{eqb-true, ltb-false}
use Rattle.std.proofs.lemmas.Option.{none-some, same_Some}
use Rattle.ul_ranges.specs.Flags.{is_blank}
use Rattle.ul_ranges.proofs.ForCallers.{length-both, length-either, length-less}
use Rattle.ul_problem.proofs.Members.{at_head, in_rest, head_or_rest, in_none}
use Rattle.ul_problem.specs.Terms.{node_of, set_of, meet_of, join_of, term_on, IsOrdered, IsOrderedFrom}
use Rattle.ul_problem.specs.Plain.{Plain, size_of, base_of}
use Rattle.ul_problem.specs.Problems.{IsWellFormed}
use Rattle.std.specs.List.{Contains}
use Rattle.ul_problem.specs.Steps.{IsTermOf, AreTermsOf, AreOfOne, term_to_say, AreWritten, IsIncompat, with_term, pair_of, base_or, says, step_of, met_terms, joined_terms, IsResolvent, IsStepWithin, IsRight, AreRightAfter}
use Rattle.ul_problem.specs.Turns.{AreLevel}
use Rattle.ul_problem.specs.declared.term.Term.{Term}
use Rattle.ul_problem.specs.declared.term.Term.TheVariants.{In, NotIn}
use Rattle.ul_problem.specs.declared.step.Step.{Step}
use Rattle.ul_problem.specs.declared.step.Step.TheVariants.{Need as NeedStep, Python, Base, Cut}
use Rattle.ul_problem.proofs.Rules.{base_fits}
use Rattle.ul_problem.proofs.Soundness.{pair_ordered, step_place}
use Rattle.ul_problem.proofs.Merging.{meet_node, join_node, on_here, on_past}

-- a term that is written is written as it is
written_again : (x t : Term) → term_to_say x ≡ Some t → term_to_say t ≡ Some t
written_again x t e = let f : x ≡ t = same x e in subst (λ (y : Term). term_to_say y ≡ Some t) f e
  where
    blank : (n : ℕ) (s : List Bool) (b : Bool) → cond b None (Some (NotIn n s)) ≡ Some t → NotIn n s ≡ t
    blank n s true g = absurd (none-some t g)
    blank n s false g = same_Some (NotIn n s) t g

    same : (y : Term) → term_to_say y ≡ Some t → y ≡ t
    same (In n s) g = same_Some (In n s) t g
    same (NotIn n s) g = blank n s (is_blank s) g

written_same : (x t : Term) → term_to_say x ≡ Some t → x ≡ t
written_same (In n s) t e = same_Some (In n s) t e
written_same (NotIn n s) t e = which (is_blank s) e
  where
    which : (b : Bool) → cond b None (Some (NotIn n s)) ≡ Some t → NotIn n s ≡ t
    which true g = absurd (none-some t g)
    which false g = same_Some (NotIn n s) t g

-- the size of a met or joined term
meet_size : (t u : Term) → length (set_of t) ≡ length (set_of u) → length (set_of (meet_of t u)) ≡ length (set_of t)
meet_size (In n s) (In m t) e = length-both s t e
meet_size (In n s) (NotIn m t) e = length-less s t
meet_size (NotIn n s) (In m t) e = length-less t s ∙ sym e
meet_size (NotIn n s) (NotIn m t) e = length-either s t e

join_size : (t u : Term) → length (set_of t) ≡ length (set_of u) → length (set_of (join_of t u)) ≡ length (set_of t)
join_size (In n s) (In m t) e = length-either s t e
join_size (In n s) (NotIn m t) e = length-less t s ∙ sym e
join_size (NotIn n s) (In m t) e = length-less s t
join_size (NotIn n s) (NotIn m t) e = length-both s t e

sizes_agree : (p : Plain) (t u : Term) → IsTermOf p t → IsTermOf p u → node_of t ≡ node_of u → length (set_of t) ≡ length (set_of u)
sizes_agree p t u a b e = a.1 ∙ (ap (λ (n : ℕ). size_of p n) e ∙ sym b.1)

meet_fits : (p : Plain) (t u : Term) → IsTermOf p t → IsTermOf p u → node_of t ≡ node_of u → IsTermOf p (meet_of t u)
meet_fits p t u a b e = let n = meet_node t u in
    (subst (λ (k : ℕ). k < length p.nodes) (sym n) a.0, meet_size t u (sizes_agree p t u a b e) ∙ (a.1 ∙ ap (λ (k : ℕ). size_of p k) (sym n)))

join_fits : (p : Plain) (t u : Term) → IsTermOf p t → IsTermOf p u → node_of t ≡ node_of u → IsTermOf p (join_of t u)
join_fits p t u a b e = let n = join_node t u in
    (subst (λ (k : ℕ). k < length p.nodes) (sym n) a.0, join_size t u (sizes_agree p t u a b e) ∙ (a.1 ∙ ap (λ (k : ℕ). size_of p k) (sym n)))

-- pairs
one_written : (t : Term) (ts : List Term) → AreWritten ts → AreWritten (with_term (term_to_say t) ts)
one_written (In n s) ts h = (refl, h)
one_written (NotIn n s) ts h = which (is_blank s) refl
  where
    which : (b : Bool) → is_blank s ≡ b → AreWritten (with_term (cond b None (Some (NotIn n s))) ts)
    which true e = h
    which false e = (ap (λ (b : Bool). cond b None (Some (NotIn n s))) e, h)

one_fits : (p : Plain) (t : Term) (ts : List Term) → IsTermOf p t → AreTermsOf p ts → AreTermsOf p (with_term (term_to_say t) ts)
one_fits p (In n s) ts i h = (i, h)
one_fits p (NotIn n s) ts i h = which (is_blank s)
  where
    which : (b : Bool) → AreTermsOf p (with_term (cond b None (Some (NotIn n s))) ts)
    which true = h
    which false = (i, h)

pair_written : (t u : Term) → AreWritten (pair_of t u)
pair_written t u = which (nat_lt (node_of t) (node_of u)) (nat_lt (node_of u) (node_of t))
  where
    which : (b c : Bool) → AreWritten (cond b (with_term (term_to_say t) (with_term (term_to_say u) [])) (cond c (with_term (term_to_say u) (with_term (term_to_say t) [])) (with_term (term_to_say (meet_of t u)) [])))
    which true c = one_written t (with_term (term_to_say u) []) (one_written u [] tt)
    which false true = one_written u (with_term (term_to_say t) []) (one_written t [] tt)
    which false false = one_written (meet_of t u) [] tt

pair_fits : (p : Plain) (t u : Term) → IsTermOf p t → IsTermOf p u → AreTermsOf p (pair_of t u)
pair_fits p t u a b = which (nat_lt (node_of t) (node_of u)) (nat_lt (node_of u) (node_of t)) refl refl
  where
    which : (x y : Bool) → nat_lt (node_of t) (node_of u) ≡ x → nat_lt (node_of u) (node_of t) ≡ y
        → AreTermsOf p (cond x (with_term (term_to_say t) (with_term (term_to_say u) [])) (cond y (with_term (term_to_say u) (with_term (term_to_say t) [])) (with_term (term_to_say (meet_of t u)) [])))
    which true y e f = one_fits p t (with_term (term_to_say u) []) a (one_fits p u [] b tt)
    which false true e f = one_fits p u (with_term (term_to_say t) []) b (one_fits p t [] a tt)
    which false false e f =
        let low : node_of u ≤ node_of t = ltb-false (node_of t) (node_of u) e in
        let high : node_of t ≤ node_of u = ltb-false (node_of u) (node_of t) f in
        one_fits p (meet_of t u) [] (meet_fits p t u a b (omega arith)) tt

base_term : (p : Plain) (n : ℕ) (s : List Bool) → IsWellFormed p → length s ≡ size_of p n → (b : ℕ) × (base_of p n ≡ Some b) → IsTermOf p (NotIn (base_or (base_of p n) n) s)
base_term p n s wf e (b, h) =
    let f = base_fits p n b wf h in
    subst (λ (o : Option ℕ). IsTermOf p (NotIn (base_or o n) s)) (sym h) (f.0, e ∙ sym f.1)

-- what a step within a problem says
pub says_whole : (p : Plain) (s : Step) → IsStepWithin p s → IsIncompat (says p s)
says_whole p (NeedStep n s m w) h = (pair_ordered (In n s) (NotIn m w), pair_written (In n s) (NotIn m w))
says_whole p (Python n s) h = (tt, (refl, tt))
says_whole p (Base n s) h = (pair_ordered (In n s) (NotIn (base_or (base_of p n) n) s), pair_written (In n s) (NotIn (base_or (base_of p n) n) s))
says_whole p (Cut i j m ts) h = h.1

pub says_fits : (p : Plain) (s : Step) → IsWellFormed p → IsStepWithin p s → AreTermsOf p (says p s)
says_fits p (NeedStep n s m w) wf h = pair_fits p (In n s) (NotIn m w) (h.0, h.2) (h.1, h.3)
says_fits p (Python n s) wf h = ((h.0, h.1), tt)
says_fits p (Base n s) wf h = pair_fits p (In n s) (NotIn (base_or (base_of p n) n) s) (h.0, h.1) (base_term p n s wf h.1 h.2)
says_fits p (Cut i j m ts) wf h = h.0

-- each term of a list
pub term_one : (k : ℕ) (ts : List Term) (t : Term) → term_on k ts ≡ Some t → Contains ts t × (node_of t ≡ k)
term_one k [] t e = absurd (none-some t e)
term_one k (u ∷ us) t e = which (nat_eq (node_of u) k) (term_one k us t) refl e
  where
    which : (b : Bool) → (term_on k us ≡ Some t → Contains us t × (node_of t ≡ k)) → nat_eq (node_of u) k ≡ b → cond b (Some u) (term_on k us) ≡ Some t → Contains (u ∷ us) t × (node_of t ≡ k)
    which true more f g = let same : u ≡ t = same_Some u t g in (at_head u us t same, ap node_of (sym same) ∙ eqb-true (node_of u) k f)
    which false more f g = let r = more g in (in_rest u us t r.0, r.1)

from_low : (low : ℕ) (ts : List Term) (t : Term) → IsOrderedFrom low ts → Contains ts t → low < node_of t
from_low low [] t h i = absurd (in_none t i)
from_low low (u ∷ us) t h i = elim (head_or_rest u us t i) [
  | inl e ↦ subst (λ (x : Term). low < node_of x) e h.0
  | inr r ↦ (let a = from_low (node_of u) us t h.1 r in omega (arith, a, h.0))
]

one_term : (ts : List Term) (t : Term) → IsOrdered ts → Contains ts t → term_on (node_of t) ts ≡ Some t
one_term [] t h i = absurd (in_none t i)
one_term (u ∷ us) t h i = elim (head_or_rest u us t i) [
  | inl e ↦ on_here u (node_of t) us (ap node_of e) ∙ ap Some e
  | inr r ↦ (
      let low = from_low (node_of u) us t h r in
      on_past u (node_of t) us (λ e. omega (arith, low, e)) ∙ one_term us t (more us h) r)
]
  where
    more : (vs : List Term) → IsOrderedFrom (node_of u) vs → IsOrdered vs
    more [] g = tt
    more (v ∷ vs) g = g.1

written_at : (ts : List Term) (t : Term) → AreWritten ts → Contains ts t → term_to_say t ≡ Some t
written_at [] t h i = absurd (in_none t i)
written_at (u ∷ us) t h i = elim (head_or_rest u us t i) [
  | inl e ↦ subst (λ (x : Term). term_to_say x ≡ Some x) e h.0
  | inr r ↦ written_at us t h.1 r
]

pub fits_at : (p : Plain) (ts : List Term) (t : Term) → AreTermsOf p ts → Contains ts t → IsTermOf p t
fits_at p [] t h i = absurd (in_none t i)
fits_at p (u ∷ us) t h i = elim (head_or_rest u us t i) [
  | inl e ↦ subst (λ (x : Term). IsTermOf p x) e h.0
  | inr r ↦ fits_at p us t h.1 r
]

all_written : (ts : List Term) → ((t : Term) → Contains ts t → term_to_say t ≡ Some t) → AreWritten ts
all_written [] h = tt
all_written (t ∷ ts) h = (h t (at_head t ts t refl), all_written ts (λ u i. h u (in_rest t ts u i)))

all_fit : (p : Plain) (ts : List Term) → ((t : Term) → Contains ts t → IsTermOf p t) → AreTermsOf p ts
all_fit p [] h = tt
all_fit p (t ∷ ts) h = (h t (at_head t ts t refl), all_fit p ts (λ u i. h u (in_rest t ts u i)))

-- where a resolvent's term comes from
abbrev IsFrom : Option Term → Option Term → Term → Type 0
IsFrom a b t = (a ≡ Some t) ⊎ ((b ≡ Some t) ⊎ ((x : Term) × (y : Term) × (a ≡ Some x) × (b ≡ Some y) × ((term_to_say (meet_of x y) ≡ Some t) ⊎ (term_to_say (join_of x y) ≡ Some t))))

comes : (a b : Option Term) (t : Term) (c : Bool) → cond c (joined_terms a b) (met_terms a b) ≡ Some t → IsFrom a b t
comes None b t true e = absurd (none-some t e)
comes (Some x) None t true e = absurd (none-some t e)
comes (Some x) (Some y) t true e = inr (inr (x, y, refl, refl, inr e))
comes None b t false e = inr (inl e)
comes (Some x) None t false e = inl e
comes (Some x) (Some y) t false e = inr (inr (x, y, refl, refl, inl e))

source : (m : ℕ) (left right ts : List Term) (t : Term) → IsResolvent m left right ts → Contains ts t → IsFrom (term_on (node_of t) left) (term_on (node_of t) right) t
source m left right ts t r i = comes (term_on (node_of t) left) (term_on (node_of t) right) t (nat_eq (node_of t) m) (sym (r.each (node_of t)) ∙ one_term ts t r.is_ordered i)

pub resolvent_whole : (m : ℕ) (left right ts : List Term) → IsIncompat left → IsIncompat right → IsResolvent m left right ts → IsIncompat ts
resolvent_whole m left right ts a b r = (r.is_ordered, all_written ts (λ t i. from t (source m left right ts t r i)))
  where
    from : (t : Term) → IsFrom (term_on (node_of t) left) (term_on (node_of t) right) t → term_to_say t ≡ Some t
    from t (inl e) = written_at left t a.1 ((term_one (node_of t) left t e).0)
    from t (inr (inl e)) = written_at right t b.1 ((term_one (node_of t) right t e).0)
    from t (inr (inr (x, y, e, f, inl g))) = written_again (meet_of x y) t g
    from t (inr (inr (x, y, e, f, inr g))) = written_again (join_of x y) t g

pub resolvent_fits : (p : Plain) (m : ℕ) (left right ts : List Term) → AreTermsOf p left → AreTermsOf p right → IsResolvent m left right ts → AreTermsOf p ts
resolvent_fits p m left right ts a b r = all_fit p ts (λ t i. from t (source m left right ts t r i))
  where
    from : (t : Term) → IsFrom (term_on (node_of t) left) (term_on (node_of t) right) t → IsTermOf p t
    from t (inl e) = fits_at p left t a ((term_one (node_of t) left t e).0)
    from t (inr (inl e)) = fits_at p right t b ((term_one (node_of t) right t e).0)
    from t (inr (inr (x, y, e, f, g))) =
        let l = term_one (node_of t) left x e in
        let q = term_one (node_of t) right y f in
        let fx = fits_at p left x a l.0 in
        let fy = fits_at p right y b q.0 in
        elim g [
          | inl h ↦ subst (λ (z : Term). IsTermOf p z) (written_same (meet_of x y) t h) (meet_fits p x y fx fy (l.1 ∙ sym q.1))
          | inr h ↦ subst (λ (z : Term). IsTermOf p z) (written_same (join_of x y) t h) (join_fits p x y fx fy (l.1 ∙ sym q.1))
        ]

-- the heads of two lists of one problem
head_drop : (ts : List Term) (i : ℕ) (t : Term) → slice_get (drop i ts) 0 ≡ Some t → Contains ts t
head_drop [] zero t e = absurd (none-some t e)
head_drop [] (suc i) t e = absurd (none-some t e)
head_drop (u ∷ us) zero t e = at_head u us t (same_Some u t e)
head_drop (u ∷ us) (suc i) t e = in_rest u us t (head_drop us i t e)

pub heads_level : (left right : List Term) (i j : ℕ) (a b : Option Term) → AreOfOne left right → a ≡ slice_get (drop i left) 0 → b ≡ slice_get (drop j right) 0 → AreLevel a b
heads_level left right i j None b o e f = tt
heads_level left right i j (Some t) None o e f = tt
heads_level left right i j (Some t) (Some u) (p, l, r) e f =
    sizes_agree p t u (fits_at p left t l (head_drop left i t (sym e))) (fits_at p right u r (head_drop right j u (sym f)))

pub two_level : (p : Plain) (t u : Term) → IsTermOf p t → IsTermOf p u → node_of t ≡ node_of u → length (set_of t) ≡ length (set_of u)
two_level = sizes_agree

-- each right step is within the problem
abbrev pub AreWithin : Plain → List Step → Type 0
AreWithin p steps = (k : ℕ) (s : Step) → slice_get steps k ≡ Some s → IsStepWithin p s

pub right_within : (p : Plain) (earlier : List Step) (s : Step) → AreWithin p earlier → IsRight p earlier s → IsStepWithin p s
right_within p earlier (NeedStep n s m w) h r = (r.0, r.1, r.2, r.3)
right_within p earlier (Python n s) h r = (r.0, r.1)
right_within p earlier (Base n s) h r = r
right_within p earlier (Cut i j m ts) h (of, (left, right, el, er, tl, tr, res)) =
    (of, resolvent_whole m (says p left) (says p right) ts (says_whole p left (at i left el)) (says_whole p right (at j right er)) res)
  where
    at : (k : ℕ) (t : Step) → step_of earlier k ≡ Some t → IsStepWithin p t
    at k t e = let r = step_place earlier k t e in h r.0 t r.1

at_end : (xs : List Step) (y x : Step) (k : ℕ) → slice_get (xs ++ y ∷ []) k ≡ Some x → (slice_get xs k ≡ Some x) ⊎ (y ≡ x)
at_end [] y x zero h = inr (same_Some y x h)
at_end [] y x (suc k) h = absurd (none-some x h)
at_end (z ∷ xs) y x zero h = inl h
at_end (z ∷ xs) y x (suc k) h = at_end xs y x k h

within_more : (p : Plain) (earlier : List Step) (s : Step) → AreWithin p earlier → IsStepWithin p s → AreWithin p (earlier ++ s ∷ [])
within_more p earlier s h w k t e = elim (at_end earlier s t k e) [ inl f ↦ h k t f | inr f ↦ subst (λ (u : Step). IsStepWithin p u) f w ]

within_from : (p : Plain) (earlier steps : List Step) → AreWithin p earlier → AreRightAfter p earlier steps → AreWithin p (earlier ++ steps)
within_from p earlier [] h r = subst (λ (l : List Step). AreWithin p l) (nil earlier) h
  where
    nil : (xs : List Step) → xs ≡ xs ++ []
    nil [] = refl
    nil (x ∷ xs) = ap (λ (l : List Step). x ∷ l) (nil xs)
within_from p earlier (s ∷ ss) h r =
    subst (λ (l : List Step). AreWithin p l) (assoc earlier) (within_from p (earlier ++ s ∷ []) ss (within_more p earlier s h (right_within p earlier s h r.0)) r.1)
  where
    assoc : (xs : List Step) → (xs ++ s ∷ []) ++ ss ≡ xs ++ s ∷ ss
    assoc [] = refl
    assoc (x ∷ xs) = ap (λ (l : List Step). x ∷ l) (assoc xs)

pub all_within : (p : Plain) (steps : List Step) → AreRightAfter p [] steps → AreWithin p steps
all_within p steps r = within_from p [] steps (λ k s e. absurd (none-some s e)) r

-- the same, of lists that are read
pub read_whole : (m : ℕ) (left right l r ts : List Term) → l ≡ left → r ≡ right → IsIncompat left → IsIncompat right → IsResolvent m l r ts → IsIncompat ts
read_whole m left right l r ts e f a b h =
    resolvent_whole m l r ts (subst (λ (x : List Term). IsIncompat x) (sym e) a) (subst (λ (x : List Term). IsIncompat x) (sym f) b) h

pub read_fits : (p : Plain) (m : ℕ) (left right l r ts : List Term) → l ≡ left → r ≡ right → AreTermsOf p left → AreTermsOf p right → IsResolvent m l r ts → AreTermsOf p ts
read_fits p m left right l r ts e f a b h =
    resolvent_fits p m l r ts (subst (λ (x : List Term). AreTermsOf p x) (sym e) a) (subst (λ (x : List Term). AreTermsOf p x) (sym f) b) h

pub said_fits : (p : Plain) (s : Step) (ts : List Term) → IsWellFormed p → IsStepWithin p s → ts ≡ says p s → AreTermsOf p ts
said_fits p s ts wf h e = subst (λ (x : List Term). AreTermsOf p x) (sym e) (says_fits p s wf h)
