-- A right step's terms are forbidden, and an accepted derivation leaves nothing that serves.
use Rattle.std.proofs.Common.{◌≡◌, ℕ, zero, suc, List, [], ◌∷◌, ◌++◌, Bool, true, false, cond, not, Option, Some, None, refl, ap, ◌∙◌, sym, ◌<◌, ◌≤◌, ◌⊎◌, inl, inr, length, arith, nat_eq, nat_lt, eq-eqb, subst, slice_get, append_assoc}
use Rattle.std.proofs.lemmas.Bool.{eqb-true, ltb-true, ltb-false, true≢false}
use Rattle.std.proofs.lemmas.List.{append-nil}
use Rattle.std.proofs.lemmas.Option.{none-some}
use Rattle.ul_ranges.specs.Flags.{has, is_blank}
use Rattle.ul_problem.specs.Terms.{Selection, is_among, node_of, allows, holds, all_hold, meet_of, join_of, term_on, may_hold, IsOrdered}
use Rattle.ul_problem.specs.Plain.{Plain, size_of, base_of, barred_of, needs_of}
use Rattle.ul_problem.specs.Serving.{Serves, Forbids, HasNone}
use Rattle.ul_problem.specs.Problems.{IsWellFormed}
use Rattle.ul_problem.proofs.Rules.{root_single}
use Rattle.ul_problem.specs.Steps.{term_to_say, with_term, pair_of, base_or, says, step_of, met_terms, joined_terms, resolvent_term, IsResolvent, HasNeed, IsRight, AreRightAfter, IsRootTerm, AreRootTerms, ClosesWith, Accepts}
use Rattle.ul_problem.specs.declared.term.Term.{Term}
use Rattle.ul_problem.specs.declared.term.Term.TheVariants.{In, NotIn}
use Rattle.ul_problem.specs.declared.step.Step.{Step}
use Rattle.ul_problem.specs.declared.step.Step.TheVariants.{Need as NeedStep, Python, Base, Cut}
use Rattle.ul_ranges.proofs.ForCallers.{blank_some}
use Rattle.ul_problem.proofs.TermLaws.{allows-meet, allows-join, may_hold-written, all_at, all_from, met_parts, and_left', and_right', and_both}

or_parts : (x y : Bool) → cond x true y ≡ true → (x ≡ true) ⊎ (y ≡ true)
or_parts true y h = inl refl
or_parts false y h = inr h

joined_parts : (t u : Option Term) (o : Option ℕ) → may_hold (joined_terms t u) o ≡ true → (may_hold t o ≡ true) ⊎ (may_hold u o ≡ true)
joined_parts None u o h = inl refl
joined_parts (Some t) None o h = inr refl
joined_parts (Some t) (Some u) o h =
    let e : cond (allows t o) true (allows u o) ≡ true = sym (allows-join t u o) ∙ (sym (may_hold-written (join_of t u) o) ∙ h) in
    or_parts (allows t o) (allows u o) e

-- on the node of the cut one of the two holds
on_cut : (m : ℕ) (t u : Option Term) (o : Option ℕ) (b : Bool) → b ≡ true → may_hold (cond b (joined_terms t u) (met_terms t u)) o ≡ true → (may_hold t o ≡ true) ⊎ (may_hold u o ≡ true)
on_cut m t u o true e h = joined_parts t u o h
on_cut m t u o false e h = cc

-- elsewhere both hold
off_cut : (m k : ℕ) (t u : Option Term) (o : Option ℕ) (b : Bool) → nat_eq k m ≡ b → may_hold (cond b (joined_terms t u) (met_terms t u)) o ≡ true → (k ≡ m) ⊎ ((may_hold t o ≡ true) × (may_hold u o ≡ true))
off_cut m k t u o true e h = inl (eqb-true k m e)
off_cut m k t u o false e h = inr (met_parts t u o h)

left_of : (σ : Selection) (m k : ℕ) (ts us : List Term) → (k ≡ m) ⊎ ((may_hold (term_on k ts) (σ k) ≡ true) × (may_hold (term_on k us) (σ k) ≡ true)) → may_hold (term_on m ts) (σ m) ≡ true → may_hold (term_on k ts) (σ k) ≡ true
left_of σ m k ts us (inl e) h = subst (λ (j : ℕ). may_hold (term_on j ts) (σ j) ≡ true) (sym e) h
left_of σ m k ts us (inr e) h = e.0

right_of : (σ : Selection) (m k : ℕ) (ts us : List Term) → (k ≡ m) ⊎ ((may_hold (term_on k ts) (σ k) ≡ true) × (may_hold (term_on k us) (σ k) ≡ true)) → may_hold (term_on m us) (σ m) ≡ true → may_hold (term_on k us) (σ k) ≡ true
right_of σ m k ts us (inl e) h = subst (λ (j : ℕ). may_hold (term_on j us) (σ j) ≡ true) (sym e) h
right_of σ m k ts us (inr e) h = e.1

-- where a resolvent's terms hold, all of the left list hold or all of the right
pub resolvent_holds : (σ : Selection) (m : ℕ) (left right ts : List Term) → IsOrdered left → IsOrdered right → IsResolvent m left right ts → all_hold σ ts ≡ true → (all_hold σ left ≡ true) ⊎ (all_hold σ right ≡ true)
resolvent_holds σ m left right ts ol or r h =
    let at : (k : ℕ) → may_hold (resolvent_term m k (term_on k left) (term_on k right)) (σ k) ≡ true = λ k. subst (λ (t : Option Term). may_hold t (σ k) ≡ true) (r.each k) (all_at σ ts h k) in
    let apart : (k : ℕ) → (k ≡ m) ⊎ ((may_hold (term_on k left) (σ k) ≡ true) × (may_hold (term_on k right) (σ k) ≡ true)) = λ k. off_cut m k (term_on k left) (term_on k right) (σ k) (nat_eq k m) refl (at k) in
    elim (on_cut m (term_on m left) (term_on m right) (σ m) (nat_eq m m) (eq-eqb m m refl) (at m)) [
      | inl e ↦ inl (all_from σ left ol (λ k. left_of σ m k left right (apart k) e))
      | inr e ↦ inr (all_from σ right or (λ k. right_of σ m k left right (apart k) e))
    ]

pub cut_sound : (p : Plain) (m : ℕ) (left right ts : List Term) → IsOrdered left → IsOrdered right → Forbids p left → Forbids p right → IsResolvent m left right ts → Forbids p ts
cut_sound p m left right ts ol or fl fr r σ serves h =
    elim (resolvent_holds σ m left right ts ol or r h) [ inl e ↦ fl σ serves e | inr e ↦ fr σ serves e ]

-- a pair of terms
with_not : (σ : Selection) (n : ℕ) (s : List Bool) (ts : List Term) (b : Bool) → is_blank s ≡ b → all_hold σ (with_term (cond b None (Some (NotIn n s))) ts) ≡ cond (holds σ (NotIn n s)) (all_hold σ ts) false
with_not σ n s ts false e = refl
with_not σ n s ts true e = let h : holds σ (NotIn n s) ≡ true = sym (may_hold-written (NotIn n s) (σ n)) ∙ ap (λ (b : Bool). may_hold (cond b None (Some (NotIn n s))) (σ n)) e in rw h refl

with_holds : (σ : Selection) (t : Term) (ts : List Term) → all_hold σ (with_term (term_to_say t) ts) ≡ cond (holds σ t) (all_hold σ ts) false
with_holds σ (In n s) ts = refl
with_holds σ (NotIn n s) ts = with_not σ n s ts (is_blank s) refl

parts_of : (σ : Selection) (t : Term) (ts : List Term) → all_hold σ (with_term (term_to_say t) ts) ≡ true → (holds σ t ≡ true) × (all_hold σ ts ≡ true)
parts_of σ t ts h = let e : cond (holds σ t) (all_hold σ ts) false ≡ true = sym (with_holds σ t ts) ∙ h in (and_left' (holds σ t) (all_hold σ ts) e, and_right' (holds σ t) (all_hold σ ts) e)

node_of-meet : (t u : Term) → node_of (meet_of t u) ≡ node_of t
node_of-meet (In n s) (In m t) = refl
node_of-meet (In n s) (NotIn m t) = refl
node_of-meet (NotIn n s) (In m t) = refl
node_of-meet (NotIn n s) (NotIn m t) = refl

pair_holds' : (σ : Selection) (t u : Term) (b c : Bool) → nat_lt (node_of t) (node_of u) ≡ b → nat_lt (node_of u) (node_of t) ≡ c
    → all_hold σ (cond b (with_term (term_to_say t) (with_term (term_to_say u) [])) (cond c (with_term (term_to_say u) (with_term (term_to_say t) [])) (with_term (term_to_say (meet_of t u)) []))) ≡ true
    → (holds σ t ≡ true) × (holds σ u ≡ true)
pair_holds' σ t u true c e f h = let x = parts_of σ t (with_term (term_to_say u) []) h in let y = parts_of σ u [] x.1 in (x.0, y.0)
pair_holds' σ t u false true e f h = let x = parts_of σ u (with_term (term_to_say t) []) h in let y = parts_of σ t [] x.1 in (y.0, x.0)
pair_holds' σ t u false false e f h =
    let low : node_of u ≤ node_of t = ltb-false (node_of t) (node_of u) e in
    let high : node_of t ≤ node_of u = ltb-false (node_of u) (node_of t) f in
    let same : node_of t ≡ node_of u = omega arith in
    let x = parts_of σ (meet_of t u) [] h in
    let y : allows (meet_of t u) (σ (node_of t)) ≡ true = subst (λ (k : ℕ). allows (meet_of t u) (σ k) ≡ true) (node_of-meet t u) x.0 in
    let z : cond (allows t (σ (node_of t))) (allows u (σ (node_of t))) false ≡ true = sym (allows-meet t u (σ (node_of t))) ∙ y in (
      and_left' (allows t (σ (node_of t))) (allows u (σ (node_of t))) z,
      subst (λ (k : ℕ). allows u (σ k) ≡ true) same (and_right' (allows t (σ (node_of t))) (allows u (σ (node_of t))) z),
    )

pub pair_holds : (σ : Selection) (t u : Term) → all_hold σ (pair_of t u) ≡ true → (holds σ t ≡ true) × (holds σ u ≡ true)
pair_holds σ t u h = pair_holds' σ t u (nat_lt (node_of t) (node_of u)) (nat_lt (node_of u) (node_of t)) refl refl h

-- a pair is in order
written_node : (t : Term) (b : Bool) → (term_to_say t ≡ None) ⊎ (term_to_say t ≡ Some t)
written_node (In n s) b = inr refl
written_node (NotIn n s) b = blank_or (is_blank s) refl
  where
    blank_or : (c : Bool) → is_blank s ≡ c → (term_to_say (NotIn n s) ≡ None) ⊎ (term_to_say (NotIn n s) ≡ Some (NotIn n s))
    blank_or true e = inl (ap (λ (d : Bool). cond d None (Some (NotIn n s))) e)
    blank_or false e = inr (ap (λ (d : Bool). cond d None (Some (NotIn n s))) e)

one_ordered : (r : Option Term) → IsOrdered (with_term r [])
one_ordered None = tt
one_ordered (Some t) = tt

two_ordered : (t u : Term) (a b : Option Term) → (a ≡ None) ⊎ (a ≡ Some t) → (b ≡ None) ⊎ (b ≡ Some u) → node_of t < node_of u → IsOrdered (with_term a (with_term b []))
two_ordered t u a b (inl e) f h = rw e (one_ordered b)
two_ordered t u a b (inr e) (inl f) h = rw (e, f) tt
two_ordered t u a b (inr e) (inr f) h = rw (e, f) (h, tt)

pair_ordered' : (t u : Term) (b c : Bool) → nat_lt (node_of t) (node_of u) ≡ b → nat_lt (node_of u) (node_of t) ≡ c
    → IsOrdered (cond b (with_term (term_to_say t) (with_term (term_to_say u) [])) (cond c (with_term (term_to_say u) (with_term (term_to_say t) [])) (with_term (term_to_say (meet_of t u)) [])))
pair_ordered' t u true c e f = two_ordered t u (term_to_say t) (term_to_say u) (written_node t true) (written_node u true) (ltb-true (node_of t) (node_of u) e)
pair_ordered' t u false true e f = two_ordered u t (term_to_say u) (term_to_say t) (written_node u true) (written_node t true) (ltb-true (node_of u) (node_of t) f)
pair_ordered' t u false false e f = one_ordered (term_to_say (meet_of t u))

pub pair_ordered : (t u : Term) → IsOrdered (pair_of t u)
pair_ordered t u = pair_ordered' t u (nat_lt (node_of t) (node_of u)) (nat_lt (node_of u) (node_of t)) refl refl

-- a node that is picked at a version of a set
picked : (o : Option ℕ) (s : List Bool) → is_among o s ≡ true → (v : ℕ) × (o ≡ Some v) × (has v s ≡ true)
picked None s h = cc
picked (Some v) s h = (v, refl, h)

among_more : (o : Option ℕ) (s t : List Bool) → ((u : ℕ) → has u s ≡ true → has u t ≡ true) → is_among o s ≡ true → is_among o t ≡ true
among_more None s t f h = h
among_more (Some v) s t f h = f v h

not_both : (b : Bool) → b ≡ true → not b ≡ true → ⊥
not_both true e f = true≢false (sym f)
not_both false e f = true≢false (sym e)

need_sound : (p : Plain) (n m : ℕ) (s w : List Bool) → ((v : ℕ) → has v s ≡ true → HasNeed (needs_of p n v) m w) → Forbids p (pair_of (In n s) (NotIn m w))
need_sound p n m s w r σ serves h =
    let both = pair_holds σ (In n s) (NotIn m w) h in
    let at = picked (σ n) s both.0 in
    let need = r at.0 at.2 in
    let met : is_among (σ need.0.node) need.0.permitted ≡ true = serves.meets n at.0 at.1 need.0 need.1 in
    let met_there : is_among (σ m) need.0.permitted ≡ true = subst (λ (k : ℕ). is_among (σ k) need.0.permitted ≡ true) need.2 met in
    not_both (is_among (σ m) w) (among_more (σ m) need.0.permitted w need.3 met_there) both.1

python_sound : (p : Plain) (n : ℕ) (s : List Bool) → ((v : ℕ) → has v s ≡ true → has v (barred_of p n) ≡ true) → Forbids p (In n s ∷ [])
python_sound p n s r σ serves h =
    let at = picked (σ n) s (and_left' (holds σ (In n s)) true h) in
    true≢false (sym (r at.0 at.2) ∙ serves.fit n at.0 at.1)

base_sound : (p : Plain) (n b : ℕ) (s : List Bool) → base_of p n ≡ Some b → Forbids p (pair_of (In n s) (NotIn b s))
base_sound p n b s r σ serves h =
    let both = pair_holds σ (In n s) (NotIn b s) h in
    let at = picked (σ n) s both.0 in
    let same : σ b ≡ Some at.0 = serves.same_base n at.0 b at.1 r in
    not_both (is_among (σ b) s) (ap (λ (o : Option ℕ). is_among o s) same ∙ at.2) both.1

-- what is known of a step
abbrev pub IsSound : Plain → Step → Type 0
IsSound p s = IsOrdered (says p s) × Forbids p (says p s)

abbrev pub AreSound : Plain → List Step → Type 0
AreSound p steps = (k : ℕ) (s : Step) → slice_get steps k ≡ Some s → IsSound p s

-- the place of a step of a number
pub step_place : (earlier : List Step) (i : ℕ) (s : Step) → step_of earlier i ≡ Some s → (k : ℕ) × (slice_get earlier k ≡ Some s)
step_place earlier zero s e = cc
step_place earlier (suc k) s e = (k, e)

pub step_sound : (p : Plain) (earlier : List Step) (s : Step) → AreSound p earlier → IsRight p earlier s → IsSound p s
step_sound p earlier (NeedStep n s m w) known r = (pair_ordered (In n s) (NotIn m w), need_sound p n m s w r.4)
step_sound p earlier (Python n s) known r = (tt, python_sound p n s r.2)
step_sound p earlier (Base n s) known r = (
  pair_ordered (In n s) (NotIn (base_or (base_of p n) n) s),
  subst (λ (o : Option ℕ). Forbids p (pair_of (In n s) (NotIn (base_or o n) s))) (sym r.2.1) (base_sound p n r.2.0 s r.2.1),
)
step_sound p earlier (Cut i j m ts) known (of, (left, right, el, er, tl, tr, res)) =
    let ki = step_place earlier i left el in
    let kj = step_place earlier j right er in
    let l = known ki.0 left ki.1 in
    let r = known kj.0 right kj.1 in
    (res.is_ordered, cut_sound p m (says p left) (says p right) ts l.0 r.0 l.1 r.1 res)

-- one more step
at_end : {A : Type 0} (xs : List A) (y x : A) (k : ℕ) → slice_get (xs ++ y ∷ []) k ≡ Some x → (slice_get xs k ≡ Some x) ⊎ (y ≡ x)
at_end [] y x zero h = inr (cc)
at_end [] y x (suc k) h = cc
at_end (z ∷ xs) y x zero h = inl h
at_end (z ∷ xs) y x (suc k) h = at_end xs y x k h

pub sound_more : (p : Plain) (steps : List Step) (s : Step) → AreSound p steps → IsSound p s → AreSound p (steps ++ s ∷ [])
sound_more p steps s known now k t e = elim (at_end steps s t k e) [ inl f ↦ known k t f | inr f ↦ subst (λ (u : Step). IsSound p u) f now ]

sound_from : (p : Plain) (earlier steps : List Step) → AreSound p earlier → AreRightAfter p earlier steps → AreSound p (earlier ++ steps)
sound_from p earlier [] h r = subst (AreSound p) (sym (append-nil earlier)) h
sound_from p earlier (s ∷ ss) h r =
    subst (AreSound p) (append_assoc earlier (s ∷ []) ss) (sound_from p (earlier ++ s ∷ []) ss (sound_more p earlier s h (step_sound p earlier s h r.0)) r.1)

-- each of steps that are right one after another is sound
pub all_sound : (p : Plain) (steps : List Step) → AreRightAfter p [] steps → AreSound p steps
all_sound p steps r = sound_from p [] steps (λ k s e. absurd (none-some s e)) r

-- no serving selection has all that a right step says
pub right_forbids : (p : Plain) (earlier : List Step) (s : Step) → AreRightAfter p [] earlier → IsRight p earlier s → Forbids p (says p s)
right_forbids p earlier s a r = (step_sound p earlier s (all_sound p earlier a) r).1

-- the roots
pub has_within : (s : List Bool) (k : ℕ) → has k s ≡ true → k < length s
has_within [] k h = absurd (true≢false (sym h))
has_within (x ∷ xs) zero h = omega arith
has_within (x ∷ xs) (suc k) h = let i = has_within xs k h in omega arith

root_holds : (p : Plain) (σ : Selection) (t : Term) → IsWellFormed p → Serves p σ → IsRootTerm p t → holds σ t ≡ true
root_holds p σ (NotIn n s) wf serves r = absurd r
root_holds p σ (In n s) wf serves r =
    let one : size_of p n ≡ 1 = root_single p n wf r.0 in
    let at = serves.has_roots n r.0 in
    let below : at.0 < size_of p n = serves.within n at.0 at.1 in
    let some = blank_some s r.2 in
    let inside : some.0 < length s = has_within s some.0 some.1 in
    let same : some.0 ≡ at.0 = omega (arith, one, below, inside, r.1.1) in
    ap (λ (o : Option ℕ). is_among o s) at.1 ∙ subst (λ (k : ℕ). has k s ≡ true) same some.1

roots_hold : (p : Plain) (σ : Selection) (ts : List Term) → IsWellFormed p → Serves p σ → AreRootTerms p ts → all_hold σ ts ≡ true
roots_hold p σ [] wf serves r = refl
roots_hold p σ (t ∷ ts) wf serves r = and_both (holds σ t) (all_hold σ ts) (root_holds p σ t wf serves r.0) (roots_hold p σ ts wf serves r.1)

pub closed : (p : Plain) (earlier steps : List Step) → IsWellFormed p → AreSound p earlier → AreRightAfter p earlier steps → ClosesWith p steps → HasNone p
closed p earlier [] wf known r c = absurd c
closed p earlier (s ∷ []) wf known r c = λ σ serves. let now = step_sound p earlier s known r.0 in now.1 σ serves (roots_hold p σ (says p s) wf serves c)
closed p earlier (s ∷ t ∷ ss) wf known r c = closed p (earlier ++ s ∷ []) (t ∷ ss) wf (sound_more p earlier s known (step_sound p earlier s known r.0)) r.1 c

-- THE LAW: where a derivation is accepted, nothing serves.
pub accepted_none : (p : Plain) (steps : List Step) → IsWellFormed p → Accepts p steps → HasNone p
accepted_none p steps wf a = closed p [] steps wf (λ k s e. absurd (none_there k s e)) a.0 a.1
  where
    none_there : (k : ℕ) (s : Step) → slice_get {X = Step} [] k ≡ Some s → ⊥
    none_there k s e = cc
