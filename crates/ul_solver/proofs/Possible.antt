-- The next node has a version that no fact excludes.
use Rattle.std.proofs.Common.{◌≡◌, ℕ, List, [], ◌∷◌, ◌++◌, Bool, true, false, cond, not, Option, Some, None, refl, ap, ◌∙◌, sym, subst, ◌<◌, ◌⊎◌, inl, inr, arith, nat_lt, length}
use Rattle.std.specs.Prelude.{Contains}
use Rattle.std.proofs.lemmas.Bool.{cases_Bool, true≢false, ltb-false}
use Rattle.ul_ranges.specs.Flags.{has, is_blank, first_in}
use Rattle.ul_ranges.proofs.ForCallers.{blank_none, first_none}
use Rattle.ul_problem.specs.Terms.{node_of, allows, meet_of}
use Rattle.ul_problem.specs.Plain.{Plain, size_of, size_in, needs_of, order_of, order_in}
use Rattle.ul_problem.specs.Problems.{IsWellFormed}
use Rattle.ul_problem.specs.Steps.{pair_of, term_to_say, with_term}
use Rattle.ul_problem.specs.Best.{Picks, next_of, joined_needs, targets}
use Rattle.ul_problem.specs.declared.term.Term.{Term}
use Rattle.ul_problem.specs.declared.term.Term.TheVariants.{In, NotIn}
use Rattle.ul_problem.specs.declared.problem.Need.{Need}
use Rattle.ul_problem.specs.declared.step.Step.{Step}
use Rattle.ul_problem.specs.declared.step.Step.TheVariants.{Need as NeedStep}
use Rattle.ul_problem.proofs.ForCallers.{one_place, need_fits, at_node, node_whole, root_single, has_within, open_one, not_decided, one_cases, at_head, in_rest, head_or_rest, in_none}
use Rattle.ul_trail.specs.Track.{Track}
use Rattle.ul_trail.specs.declared.fact.Fact.{Fact}
use Rattle.ul_trail.specs.Facts.{is_open, IsHeld, AreHeldBut, one_of, picks_of, IsAllowed}
use Rattle.ul_trail.specs.Propagation.{IsQuiet, IsQuietAt, root_fact, root_facts}
use Rattle.ul_trail.proofs.ForCallers.{place_decided, HasFact, pick_fact, held_in, pair_held, open_one_version}
use Rattle.ul_trail.specs.Moves.{HasSteps, HasVersionSteps}
use Rattle.ul_solver.specs.State.{IsState}
use Rattle.ul_solver.proofs.Starting.{next_within}

-- which pick asks for a node
target_need : (needs : List Need) (n : ℕ) → Contains (targets needs) n → (need : Need) × Contains needs need × (need.node ≡ n)
target_need [] n h = absurd (in_none n h)
target_need (x ∷ xs) n h = elim (head_or_rest x.node (targets xs) n h) [
  | inl e ↦ (x, at_head x xs x refl, e)
  | inr i ↦ (let r = target_need xs n i in (r.0, in_rest x xs r.0 r.1, r.2))
]

pub asked_by : (p : Plain) (d : Picks) (n : ℕ) → Contains (joined_needs p d) n → (e : ℕ × ℕ) × Contains d e × ((need : Need) × Contains (needs_of p e.0 e.1) need × (need.node ≡ n))
asked_by p [] n h = absurd (in_none n h)
asked_by p (e ∷ d) n h = elim (one_cases n (targets (needs_of p e.0 e.1)) (joined_needs p d) h) [
  | inl i ↦ (e, at_head e d e refl, target_need (needs_of p e.0 e.1) n i)
  | inr i ↦ (let r = asked_by p d n i in (r.0, in_rest e d r.0 r.1, r.2))
]

but_pair : (facts : List Fact) (t u : Term) → (node_of t ≡ node_of u → ⊥) → IsHeld facts t → term_to_say t ≡ Some t → term_to_say u ≡ Some u → AreHeldBut facts u (pair_of t u)
but_pair facts t u n h wt wu = which (nat_lt (node_of t) (node_of u)) (nat_lt (node_of u) (node_of t)) refl refl
  where
    which : (b c : Bool) → nat_lt (node_of t) (node_of u) ≡ b → nat_lt (node_of u) (node_of t) ≡ c
        → AreHeldBut facts u (cond b (with_term (term_to_say t) (with_term (term_to_say u) [])) (cond c (with_term (term_to_say u) (with_term (term_to_say t) [])) (with_term (term_to_say (meet_of t u)) [])))
    which true c e f = subst (λ (o : Option Term). AreHeldBut facts u (with_term o (with_term (term_to_say u) []))) (sym wt) (subst (λ (o : Option Term). AreHeldBut facts u (t ∷ with_term o [])) (sym wu) (inr (h, inl (refl, tt))))
    which false true e f = subst (λ (o : Option Term). AreHeldBut facts u (with_term (term_to_say u) (with_term o []))) (sym wt) (subst (λ (o : Option Term). AreHeldBut facts u (with_term o (t ∷ []))) (sym wu) (inl (refl, (h, tt))))
    which false false e f = absurd (let a = ltb-false (node_of t) (node_of u) e in let b = ltb-false (node_of u) (node_of t) f in n (omega arith))

in_set : (o : Option ℕ) (n : ℕ) (w : List Bool) → allows (NotIn n w) o ≡ false → (v : ℕ) × (o ≡ Some v) × (has v w ≡ true)
in_set None n w h = cc
in_set (Some v) n w h = (v, refl, which (has v w) h)
  where
    which : (b : Bool) → not b ≡ false → b ≡ true
    which true e = refl
    which false e = sym e

-- the open option of the next node is one of its versions
pub record HasVersion (p : Plain) (facts : List Fact) (n : ℕ) : Type 0 where
  pub version : ℕ
  pub there : version < size_of p n
  pub is : is_open facts n (Some version) ≡ true

asked_version : (p : Plain) (t : Track) (m v n : ℕ) (need : Need) → IsWellFormed p → IsState p t → IsQuiet p t → HasVersionSteps p t.steps m v → HasFact p t.facts m v → Contains (needs_of p m v) need → need.node ≡ n → (m ≡ n → ⊥) → HasVersion p t.facts n
asked_version p t m v n need wf st quiet steps fact one e apart =
    let found = steps.needs need one in
    let s : List Bool = found.0 in
    let w : List Bool = need.permitted in
    let step : Step = NeedStep m s need.node need.permitted in
    let held : IsHeld t.facts (In m s) = held_in p t.facts m v s fact found.1 in
    let k = one_place t.steps step found.2 in
    let q : IsQuietAt p t.facts step = quiet k.0 step k.1 in
    let al = st.right.alive.at need.node in
    let fits = need_fits p m v need wf one in
    elim (cases_blank w) [
      | inl b ↦ absurd (q.0 (pair_held t.facts (In m s) (NotIn need.node need.permitted) held (λ o i. blank_allows o need.node need.permitted b)))
      | inr b ↦ (let failed = q.1 (NotIn need.node need.permitted) (but_pair t.facts (In m s) (NotIn need.node need.permitted) (λ x. apart (x ∙ e)) held refl (ap (λ (c : Bool). cond c None (Some (NotIn need.node need.permitted))) b)) in
          let r = in_set al.0 need.node need.permitted (failed al.0 al.1) in
          record {
            version = r.0;
            there = let x = has_within need.permitted r.0 r.2 in let y = fits.1 in let z : size_of p need.node ≡ size_of p n = ap (size_of p) e in omega arith;
            is = subst (λ (j : ℕ). is_open t.facts j (Some r.0) ≡ true) e (subst (λ (o : Option ℕ). is_open t.facts need.node o ≡ true) r.1 al.1);
          })
    ]
  where
    cases_blank : (s : List Bool) → (is_blank s ≡ true) ⊎ (is_blank s ≡ false)
    cases_blank s = cases_Bool (is_blank s)

    blank_allows : (o : Option ℕ) (j : ℕ) (s : List Bool) → is_blank s ≡ true → allows (NotIn j s) o ≡ true
    blank_allows None j s b = refl
    blank_allows (Some u) j s b = ap not (blank_none s b u)

root_one : (p : Plain) (ns : List ℕ) (n : ℕ) (rest : List Fact) → Contains ns n → Contains (root_facts p ns ++ rest) (root_fact p n)
root_one p [] n rest h = absurd (in_none n h)
root_one p (x ∷ xs) n rest h = elim (head_or_rest x xs n h) [
  | inl e ↦ at_head (root_fact p x) (root_facts p xs ++ rest) (root_fact p n) (ap (root_fact p) e)
  | inr i ↦ in_rest (root_fact p x) (root_facts p xs ++ rest) (root_fact p n) (root_one p xs n rest i)
]

root_version : (p : Plain) (t : Track) (n : ℕ) → IsWellFormed p → IsState p t → Contains p.roots n → HasVersion p t.facts n
root_version p t n wf st i =
    let s = root_single p n wf i in
    let z : 0 < size_of p n = omega arith in
    let al = st.right.alive.at n in
    let fact : HasFact p t.facts n 0 = (z, (root_fact p n, subst (λ (l : List Fact). Contains l (root_fact p n)) (sym st.right.begun.is) (root_one p p.roots n st.right.begun.rest i), refl)) in
    let e : al.0 ≡ Some 0 = open_one_version p t.facts n 0 al.0 fact al.1 in
    record { version = 0; there = z; is = subst (λ (o : Option ℕ). is_open t.facts n o ≡ true) e al.1 }

pub next_version : (p : Plain) (t : Track) (n : ℕ) → IsWellFormed p → IsState p t → IsQuiet p t → HasSteps p (picks_of t.facts) t.steps → next_of p (picks_of t.facts) ≡ Some n → HasVersion p t.facts n
next_version p t n wf st quiet steps next = elim (one_cases n p.roots (joined_needs p (picks_of t.facts)) (open_one (picks_of t.facts) (p.roots ++ joined_needs p (picks_of t.facts)) n next)) [
  | inl i ↦ root_version p t n wf st i
  | inr i ↦ (let a = asked_by p (picks_of t.facts) n i in
      let k = one_place (picks_of t.facts) a.0 a.1 in
      let nd = not_decided p (picks_of t.facts) n next in
      asked_version p t a.0.0 a.0.1 n a.2.0 wf st quiet (steps.versions a.0.0 a.0.1 a.1) (pick_fact p t.steps [] t.facts a.0.0 a.0.1 st.right.follow.derived a.1) a.2.1 a.2.2
      (λ e. true≢false (sym (place_decided n (picks_of t.facts) k.0 a.0 k.1 e) ∙ nd)))
]

pub never_none : (p : Plain) (t : Track) (n : ℕ) (s : List Bool) (order : List ℕ) → IsWellFormed p → IsState p t → IsQuiet p t → HasSteps p (picks_of t.facts) t.steps → next_of p (picks_of t.facts) ≡ Some n → order ≡ order_of p n → IsAllowed t.facts n (size_of p n) s → None ≡ first_in order s → ⊥
never_none p t n s order wf st quiet steps next eo a e =
    let h = next_version p t n wf st quiet steps next in
    let f = at_node p n (next_within p (picks_of t.facts) n wf next) in
    let w = node_whole p n f.0 wf f.1 in
    let es : size_of p n ≡ length f.0.versions = ap size_in f.1 in
    let low = h.there in
    let c : Contains f.0.order h.version = w.is_order.2 h.version (omega arith) in
    let eq : order ≡ f.0.order = eo ∙ ap order_in f.1 in
    let none = first_none (λ k. has k s) order (sym e) in
    let c' : Contains order h.version = subst (λ (x : List ℕ). Contains x h.version) (sym eq) c in
    true≢false (sym (a.each h.version h.there ∙ h.is) ∙ subst (λ (z : ℕ). has z s ≡ false) c'.2 (none c'.0 h.version c'.1))
