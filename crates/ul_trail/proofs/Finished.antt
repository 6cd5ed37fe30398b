-- A finished trail's roots and decisions serve.
use Rattle.std.proofs.Common.{◌≡◌, ℕ, zero, suc, List, [], ◌∷◌, ◌++◌, Bool, true, false, cond, not, Option, Some, None, refl, ap, ◌∙◌, sym, subst, ◌<◌, ◌≤◌, inl, inr, arith, nat_eq, nat_lt, eq-eqb}
use Rattle.std.proofs.lemmas.Bool.{ltb-false, true≢false}
use Rattle.std.specs.List.{Contains}
use Rattle.ul_ranges.specs.Flags.{has, is_blank}
use Rattle.ul_problem.specs.Terms.{node_of, set_of, allows, is_among, meet_of}
use Rattle.ul_problem.specs.Plain.{Plain, size_of, barred_of}
use Rattle.ul_problem.specs.Serving.{Serves}
use Rattle.ul_problem.specs.Problems.{IsWellFormed}
use Rattle.ul_problem.specs.Steps.{says, pair_of, term_to_say, with_term, base_or}
use Rattle.ul_problem.specs.Best.{Picks, next_of, version_in, IsChain, joined_needs}
use Rattle.ul_problem.specs.declared.term.Term.{Term}
use Rattle.ul_problem.specs.declared.term.Term.TheVariants.{In, NotIn}
use Rattle.ul_problem.specs.declared.step.Step.{Step}
use Rattle.ul_problem.specs.declared.step.Step.TheVariants.{Need as NeedStep, Python, Base}
use Rattle.ul_problem.proofs.ForCallers.{allows-meet, and_both, and_left', and_right', IsAsked, asked_base, asked_all, one_left, one_right, wanted_one, pick_of, none_open, decided_version, at_head, in_rest, head_or_rest, in_none, one_place}
use Rattle.ul_trail.specs.Track.{Track}
use Rattle.ul_trail.specs.declared.fact.Fact.{Fact}
use Rattle.ul_trail.specs.Facts.{is_open, IsHeld, AreHeld, one_of, first_of, pick_with, picks_of}
use Rattle.ul_trail.specs.Propagation.{IsDerived, AreDerivedAfter, IsTrailOf, NoConflict}
use Rattle.ul_trail.specs.Moves.{HasSteps}
use Rattle.ul_trail.proofs.Following.{one_has, one_first}

-- only v is in the set of v alone
beyond : (size v k : ℕ) → size ≤ v → has k (one_of size v) ≡ false
beyond zero v k h = refl
beyond (suc size) zero k h = absurd (omega arith)
beyond (suc size) (suc v) zero h = refl
beyond (suc size) (suc v) (suc k) h = beyond size v k (omega arith)

one_only : (size v k : ℕ) → has k (one_of size v) ≡ true → k ≡ v
one_only zero v k h = absurd (true≢false (sym h))
one_only (suc size) zero zero h = refl
one_only (suc size) zero (suc k) h = absurd (true≢false (sym h ∙ beyond size (suc size) k (omega arith)))
one_only (suc size) (suc v) zero h = absurd (true≢false (sym h))
one_only (suc size) (suc v) (suc k) h = ap suc (one_only size v k h)

-- what is open, each fact on the node allows
fact_here : (f : Fact) (r : Bool) (o : Option ℕ) (b : Bool) → b ≡ true → cond b (cond (allows f.term o) r false) r ≡ true → allows f.term o ≡ true
fact_here f r o true e h = and_left' (allows f.term o) r h
fact_here f r o false e h = absurd (true≢false (sym e))

fact_past : (f : Fact) (r : Bool) (o : Option ℕ) (b : Bool) → cond b (cond (allows f.term o) r false) r ≡ true → r ≡ true
fact_past f r o true h = and_right' (allows f.term o) r h
fact_past f r o false h = h

open_allows : (facts : List Fact) (t : Term) (f : Fact) (o : Option ℕ) → Contains facts f → f.term ≡ t → is_open facts (node_of t) o ≡ true → allows t o ≡ true
open_allows [] t f o h e i = absurd (in_none f h)
open_allows (g ∷ fs) t f o h e i = elim (head_or_rest g fs f h) [
  | inl k ↦ (
      let same : g.term ≡ t = ap (λ (x : Fact). x.term) k ∙ e in
      subst (λ (x : Term). allows x o ≡ true) same (fact_here g (is_open fs (node_of t) o) o (nat_eq (node_of g.term) (node_of t)) (eq-eqb (node_of g.term) (node_of t) (ap node_of same)) i))
  | inr k ↦ open_allows fs t f o k e (fact_past g (is_open fs (node_of t) o) o (nat_eq (node_of g.term) (node_of t)) i)
]

-- the fact of a pick
abbrev pub HasFact : Plain → List Fact → ℕ → ℕ → Type 0
HasFact p facts n v = (v < size_of p n) × ((f : Fact) × Contains facts f × (f.term ≡ In n (one_of (size_of p n) v)))

pick_here : (p : Plain) (steps : List Step) (earlier : List Fact) (f : Fact) (fs : List Fact) (c : Option ℕ) (n v : ℕ) → f.cause ≡ c → IsDerived p steps earlier f.term c → (Contains (picks_of fs) (n, v) → HasFact p fs n v) → Contains (pick_with c f.term (picks_of fs)) (n, v) → HasFact p (f ∷ fs) n v
pick_here p steps earlier f fs (Some c) n v e d k h = let r = k h in (r.0, (r.1.0, in_rest f fs r.1.0 r.1.1, r.1.2))
pick_here p steps earlier f fs None n v e (m, u, below, is) k i = elim (head_or_rest (node_of f.term, first_of (set_of f.term)) (picks_of fs) (n, v) i) [
  | inr g ↦ (let r = k g in (r.0, (r.1.0, in_rest f fs r.1.0 r.1.1, r.1.2)))
  | inl h ↦ (
      let en : m ≡ n = ap node_of (sym is) ∙ ap (λ (x : ℕ × ℕ). x.0) h in
      let ev : u ≡ v = sym (one_first (size_of p m) u below) ∙ (ap (λ (t : Term). first_of (set_of t)) (sym is) ∙ ap (λ (x : ℕ × ℕ). x.1) h) in (
        subst (λ (x : ℕ × ℕ). x.1 < size_of p x.0) (λ i. (en i, ev i)) below,
        (f, at_head f fs f refl, subst (λ (x : ℕ × ℕ). f.term ≡ In x.0 (one_of (size_of p x.0) x.1)) (λ i. (en i, ev i)) is),
      ))
]

pub pick_fact : (p : Plain) (steps : List Step) (earlier facts : List Fact) (n v : ℕ) → AreDerivedAfter p steps earlier facts → Contains (picks_of facts) (n, v) → HasFact p facts n v
pick_fact p steps earlier [] n v d h = absurd (in_none (n, v) h)
pick_fact p steps earlier (f ∷ fs) n v d h = pick_here p steps earlier f fs f.cause n v refl d.0 (pick_fact p steps (earlier ++ f ∷ []) fs n v d.1) h

-- at a decided node its version alone is open
pub open_one_version : (p : Plain) (facts : List Fact) (n v : ℕ) (o : Option ℕ) → HasFact p facts n v → is_open facts n o ≡ true → o ≡ Some v
open_one_version p facts n v o (below, (f, one, is)) h = which o (open_allows facts (In n (one_of (size_of p n) v)) f o one is h)
  where
    which : (q : Option ℕ) → is_among q (one_of (size_of p n) v) ≡ true → q ≡ Some v
    which None e = absurd (true≢false (sym e))
    which (Some k) e = ap Some (one_only (size_of p n) v k e)

pub held_in : (p : Plain) (facts : List Fact) (n v : ℕ) (s : List Bool) → HasFact p facts n v → has v s ≡ true → IsHeld facts (In n s)
held_in p facts n v s h k o i = ap (λ (q : Option ℕ). is_among q s) (open_one_version p facts n v o h i) ∙ k

held_not : (p : Plain) (facts : List Fact) (n v : ℕ) (s : List Bool) → HasFact p facts n v → has v s ≡ false → IsHeld facts (NotIn n s)
held_not p facts n v s h k o i = ap (λ (q : Option ℕ). not (is_among q s)) (open_one_version p facts n v o h i) ∙ ap not k

-- a pair of held terms is held
with_held : (facts : List Fact) (t : Term) (ts : List Term) → IsHeld facts t → AreHeld facts ts → AreHeld facts (with_term (term_to_say t) ts)
with_held facts (In n s) ts h i = (h, i)
with_held facts (NotIn n s) ts h i = which (is_blank s)
  where
    which : (b : Bool) → AreHeld facts (with_term (cond b None (Some (NotIn n s))) ts)
    which true = i
    which false = (h, i)

node_meet : (t u : Term) → node_of (meet_of t u) ≡ node_of t
node_meet (In n s) (In m t) = refl
node_meet (In n s) (NotIn m t) = refl
node_meet (NotIn n s) (In m t) = refl
node_meet (NotIn n s) (NotIn m t) = refl

meet_held : (facts : List Fact) (t u : Term) → node_of t ≡ node_of u → IsHeld facts t → IsHeld facts u → IsHeld facts (meet_of t u)
meet_held facts t u e h i o k =
    let at : is_open facts (node_of t) o ≡ true = subst (λ (n : ℕ). is_open facts n o ≡ true) (node_meet t u) k in
    let bt : is_open facts (node_of u) o ≡ true = subst (λ (n : ℕ). is_open facts n o ≡ true) e at in
    allows-meet t u o ∙ and_both (allows t o) (allows u o) (h o at) (i o bt)

pair_held' : (facts : List Fact) (t u : Term) (b c : Bool) → nat_lt (node_of t) (node_of u) ≡ b → nat_lt (node_of u) (node_of t) ≡ c → IsHeld facts t → IsHeld facts u
    → AreHeld facts (cond b (with_term (term_to_say t) (with_term (term_to_say u) [])) (cond c (with_term (term_to_say u) (with_term (term_to_say t) [])) (with_term (term_to_say (meet_of t u)) [])))
pair_held' facts t u true c e f h i = with_held facts t (with_term (term_to_say u) []) h (with_held facts u [] i tt)
pair_held' facts t u false true e f h i = with_held facts u (with_term (term_to_say t) []) i (with_held facts t [] h tt)
pair_held' facts t u false false e f h i =
    let low : node_of u ≤ node_of t = ltb-false (node_of t) (node_of u) e in
    let high : node_of t ≤ node_of u = ltb-false (node_of u) (node_of t) f in
    let same : node_of t ≡ node_of u = omega arith in
    with_held facts (meet_of t u) [] (meet_held facts t u same h i) tt

pub pair_held : (facts : List Fact) (t u : Term) → IsHeld facts t → IsHeld facts u → AreHeld facts (pair_of t u)
pair_held facts t u h i = pair_held' facts t u (nat_lt (node_of t) (node_of u)) (nat_lt (node_of u) (node_of t)) refl refl h i

clash : (p : Plain) (t : Track) (s : Step) → NoConflict p t → Contains t.steps s → AreHeld t.facts (says p s) → ⊥
clash p t s none one h = let k = one_place t.steps s one in none k.0 (s, k.1, h)

true_unless : (b : Bool) → (b ≡ false → ⊥) → b ≡ true
true_unless true h = refl
true_unless false h = absurd (h refl)

false_unless : (b : Bool) → (b ≡ true → ⊥) → b ≡ false
false_unless true h = absurd (h refl)
false_unless false h = refl

pub finished_serves : (p : Plain) (t : Track) → IsWellFormed p → IsTrailOf p t → HasSteps p (picks_of t.facts) t.steps → NoConflict p t → IsChain p [] (picks_of t.facts) → next_of p (picks_of t.facts) ≡ None → Serves p (version_in (picks_of t.facts))
finished_serves p t wf w steps none chain end =
    let d : Picks = picks_of t.facts in
    let fact : (n v : ℕ) → version_in d n ≡ Some v → HasFact p t.facts n v = λ n v h. pick_fact p t.steps [] t.facts n v w.follow.derived (pick_of d n v h) in
    let done : (n : ℕ) → IsAsked p d n → (v : ℕ) × (version_in d n ≡ Some v) = λ n h. decided_version d n (none_open d (p.roots ++ joined_needs p d) n end h) in
    record {
      within = λ n v h. (fact n v h).0;
      has_roots = λ n h. done n (one_left n p.roots (joined_needs p d) h);
      fit = λ n v h. false_unless (has v (barred_of p n)) (λ e. clash p t (Python n (barred_of p n)) none (steps.pythons n v e) (held_in p t.facts n v (barred_of p n) (fact n v h) e, tt));
      same_base = λ n v b h e.
          (let u = done b (asked_base p d n b wf (asked_all p [] d n v chain (pick_of d n v h)) e) in
          let below : v < size_of p n = (fact n v h).0 in
          let in' : IsHeld t.facts (In n (one_of (size_of p n) v)) = held_in p t.facts n v (one_of (size_of p n) v) (fact n v h) (one_has (size_of p n) v below) in
          let says' : AreHeld t.facts (pair_of (In n (one_of (size_of p n) v)) (NotIn b (one_of (size_of p n) v))) → ⊥ =
          λ k. clash p t (Base n (one_of (size_of p n) v)) none ((steps.versions n v (pick_of d n v h)).bases b e) (subst (λ (o : Option ℕ). AreHeld t.facts (pair_of (In n (one_of (size_of p n) v)) (NotIn (base_or o n) (one_of (size_of p n) v)))) (sym e) k) in
          let is : has u.0 (one_of (size_of p n) v) ≡ true = true_unless (has u.0 (one_of (size_of p n) v)) (λ k. says' (pair_held t.facts (In n (one_of (size_of p n) v)) (NotIn b (one_of (size_of p n) v)) in' (held_not p t.facts b u.0 (one_of (size_of p n) v) (fact b u.0 u.1) k))) in
          u.1 ∙ ap Some (one_only (size_of p n) v u.0 is));
      meets = λ n v h need i.
          (let u = done need.node (one_right need.node p.roots (joined_needs p d) (wanted_one p d n v need (pick_of d n v h) i)) in
          let step = (steps.versions n v (pick_of d n v h)).needs need i in
          let in' : IsHeld t.facts (In n step.0) = held_in p t.facts n v step.0 (fact n v h) step.1 in
          let is : has u.0 need.permitted ≡ true = true_unless (has u.0 need.permitted) (λ k. clash p t (NeedStep n step.0 need.node need.permitted) none step.2 (pair_held t.facts (In n step.0) (NotIn need.node need.permitted) in' (held_not p t.facts need.node u.0 need.permitted (fact need.node u.0 u.1) k))) in
          ap (λ (o : Option ℕ). is_among o need.permitted) u.1 ∙ is);
    }
