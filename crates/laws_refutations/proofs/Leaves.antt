-- A selection within a problem that doesn't serve is refuted by one step: one on a version that isn't fit, on an extra
-- whose base is at another version, or on a need that isn't met.
use Rattle.std.proofs.Common.{◌≡◌, ℕ, ◌<◌, ◌≤◌, ◌⊎◌, inl, inr, List, [], ◌∷◌, Bool, true, false, cond, not, Option, Some, None, length, arith, refl, sym, ap, ◌∙◌, subst, nat_lt}
use Rattle.std.specs.Prelude.{Contains}
use Rattle.std.proofs.lemmas.Bool.{cases_Bool, cases_eq, ltb-false, true≢false}
use Rattle.std.proofs.lemmas.Option.{none-some, same_Some, slice_get_within}
use Rattle.ul_ranges.specs.Flags.{has, is_blank}
use Rattle.ul_problem.specs.Terms.{Selection, is_among, node_of, allows, holds, all_hold, meet_of, term_on, may_hold}
use Rattle.ul_problem.specs.Plain.{Plain, size_of, base_of, barred_of, needs_of}
use Rattle.ul_problem.specs.Problems.{IsWellFormed}
use Rattle.ul_problem.specs.Serving.{HasNone, Serves}
use Rattle.ul_problem.specs.Steps.{base_or, HasNeed, IsRight, pair_of, says, term_to_say, with_term}
use Rattle.ul_problem.specs.declared.problem.Need.{Need}
use Rattle.ul_problem.specs.declared.term.Term.{Term}
use Rattle.ul_problem.specs.declared.term.Term.TheVariants.{In, NotIn}
use Rattle.ul_problem.specs.declared.step.Step.{Step}
use Rattle.ul_problem.specs.declared.step.Step.TheVariants.{Need as NeedStep, Python, Base}
use Rattle.ul_problem.proofs.ForCallers.{allows-meet, and_both, meet_node, need_fits, node_of_size}
use Rattle.ul_problem.proofs.TermLaws.{all_at}
use Rattle.ul_trail.specs.Facts.{one_of}
use Rattle.ul_trail.proofs.ForCallers.{one_has, one_length, one_other}
use Rattle.laws_trees.proofs.ForCallers.{each_below, each_of}
use Rattle.laws_refutations.proofs.Selections.{IsTried}

-- a step that is right after any others, whose terms hold of the selection
pub record IsRefuting (p : Plain) (σ : Selection) : Type 0 where
  pub step : Step
  pub right : (earlier : List Step) → IsRight p earlier step
  pub each : (n : ℕ) → may_hold (term_on n (says p step)) (σ n) ≡ true

-- the set of one version
abbrev only : Plain → ℕ → ℕ → List Bool
only p n v = one_of (size_of p n) v

only_one : (p : Plain) (n v k : ℕ) → has k (only p n v) ≡ true → v ≡ k
only_one p n v k e = elim (cases_eq v k) [
  | inl s ↦ s
  | inr d ↦ absurd (true≢false (sym e ∙ one_other (size_of p n) v k d))
]

among_only : (p : Plain) (σ : Selection) (n v : ℕ) → σ n ≡ Some v → v < size_of p n → is_among (σ n) (only p n v) ≡ true
among_only p σ n v e h = ap (λ (o : Option ℕ). is_among o (only p n v)) e ∙ one_has (size_of p n) v h

not_among : (p : Plain) (n v : ℕ) (o : Option ℕ) → (o ≡ Some v → ⊥) → is_among o (only p n v) ≡ false
not_among p n v None h = refl
not_among p n v (Some w) h = one_other (size_of p n) v w (λ e. h (ap Some (sym e)))

-- a pair of terms that hold
with_all : (σ : Selection) (t : Term) (ts : List Term) → holds σ t ≡ true → all_hold σ ts ≡ true
    → all_hold σ (with_term (term_to_say t) ts) ≡ true
with_all σ (In n s) ts h g = and_both (holds σ (In n s)) (all_hold σ ts) h g
with_all σ (NotIn n s) ts h g = which (is_blank s)
  where
    which : (b : Bool) → all_hold σ (with_term (cond b None (Some (NotIn n s))) ts) ≡ true
    which true = g
    which false = and_both (holds σ (NotIn n s)) (all_hold σ ts) h g

pair_all : (σ : Selection) (t u : Term) → holds σ t ≡ true → holds σ u ≡ true → all_hold σ (pair_of t u) ≡ true
pair_all σ t u h g = which (nat_lt (node_of t) (node_of u)) (nat_lt (node_of u) (node_of t)) refl refl
  where
    which : (x y : Bool) → nat_lt (node_of t) (node_of u) ≡ x → nat_lt (node_of u) (node_of t) ≡ y
        → all_hold σ (cond x (with_term (term_to_say t) (with_term (term_to_say u) []))
        (cond y (with_term (term_to_say u) (with_term (term_to_say t) []))
        (with_term (term_to_say (meet_of t u)) []))) ≡ true
    which true y e f = with_all σ t (with_term (term_to_say u) []) h (with_all σ u [] g refl)
    which false true e f = with_all σ u (with_term (term_to_say t) []) g (with_all σ t [] h refl)
    which false false e f =
        let low : node_of u ≤ node_of t = ltb-false (node_of t) (node_of u) e in
        let high : node_of t ≤ node_of u = ltb-false (node_of u) (node_of t) f in
        let same : node_of u ≡ node_of t = omega arith in
        let gt : allows u (σ (node_of t)) ≡ true = subst (λ (k : ℕ). allows u (σ k) ≡ true) same g in
        let at_t : Option ℕ = σ (node_of t) in
        let met : allows (meet_of t u) at_t ≡ true =
        allows-meet t u at_t ∙ and_both (allows t at_t) (allows u at_t) h gt in
        let there = subst (λ (k : ℕ). allows (meet_of t u) (σ k) ≡ true) (sym (meet_node t u)) met in
        with_all σ (meet_of t u) [] there refl

pair_each : (σ : Selection) (t u : Term) → holds σ t ≡ true → holds σ u ≡ true → (n : ℕ)
    → may_hold (term_on n (pair_of t u)) (σ n) ≡ true
pair_each σ t u h g = all_at σ (pair_of t u) (pair_all σ t u h g)

-- the three kinds of step
module _ (p : Plain) (σ : Selection) (n v : ℕ) (picked : σ n ≡ Some v) (size : v < size_of p n) where
  in_range : n < length p.nodes
  in_range = let f = node_of_size p n v size in slice_get_within p.nodes n f.0 f.1

  not_fit : has v (barred_of p n) ≡ true → IsRefuting p σ
  not_fit e = record {
    step = Python n (only p n v);
    right =
        λ earlier. (
          in_range,
          one_length (size_of p n) v,
          λ k h. subst (λ (j : ℕ). has j (barred_of p n) ≡ true) (only_one p n v k h) e,
        );
    each =
        all_at σ (In n (only p n v) ∷ [])
        (and_both (is_among (σ n) (only p n v)) true (among_only p σ n v picked size) refl);
  }

  not_based : (b : ℕ) → base_of p n ≡ Some b → (σ b ≡ Some v → ⊥) → IsRefuting p σ
  not_based b e d = record {
    step = Base n (only p n v);
    right = λ earlier. (in_range, one_length (size_of p n) v, (b, e));
    each =
        subst (λ (o : Option ℕ). (k : ℕ)
        → may_hold (term_on k (pair_of (In n (only p n v)) (NotIn (base_or o n) (only p n v)))) (σ k) ≡ true) (sym e)
        (pair_each σ (In n (only p n v)) (NotIn b (only p n v)) (among_only p σ n v picked size)
        (ap not (not_among p n v (σ b) d)));
  }

  not_met : (need : Need) → IsWellFormed p → Contains (needs_of p n v) need
      → is_among (σ need.node) need.permitted ≡ false → IsRefuting p σ
  not_met need wf c e = record {
    step = NeedStep n (only p n v) need.node need.permitted;
    right = λ earlier. (let f = need_fits p n v need wf c in
        let has_need : HasNeed (needs_of p n v) need.node need.permitted = (need, c, refl, λ u g. g) in (
          in_range,
          f.0,
          one_length (size_of p n) v,
          f.1,
          λ k h. subst (λ (j : ℕ). HasNeed (needs_of p n j) need.node need.permitted) (only_one p n v k h) has_need,
        ));
    each = pair_each σ (In n (only p n v)) (NotIn need.node need.permitted) (among_only p σ n v picked size) (ap not e);
  }

-- what serving asks of a version of a node
record IsServedAt (p : Plain) (σ : Selection) (n v : ℕ) : Type 0 where
  fit : has v (barred_of p n) ≡ false
  same_base : (b : ℕ) → base_of p n ≡ Some b → σ b ≡ Some v
  meets : (need : Need) → Contains (needs_of p n v) need → is_among (σ need.node) need.permitted ≡ true

base_served : (p : Plain) (σ : Selection) (n v : ℕ) (o : Option ℕ) → σ n ≡ Some v → v < size_of p n → base_of p n ≡ o
    → ((b : ℕ) → base_of p n ≡ Some b → σ b ≡ Some v) ⊎ IsRefuting p σ
base_served p σ n v None e h f = inl (λ b g. absurd (none-some b (sym f ∙ g)))
base_served p σ n v (Some c) e h f = at (σ c) refl
  where
    same : (w : ℕ) → σ c ≡ Some w → w ≡ v → (b : ℕ) → base_of p n ≡ Some b → σ b ≡ Some v
    same w g s b k = subst (λ (j : ℕ). σ j ≡ Some v) (same_Some c b (sym f ∙ k)) (g ∙ ap Some s)

    at : (q : Option ℕ) → σ c ≡ q → ((b : ℕ) → base_of p n ≡ Some b → σ b ≡ Some v) ⊎ IsRefuting p σ
    at None g = inr (not_based p σ n v e h c f (λ k. none-some v (sym g ∙ k)))
    at (Some w) g = elim (cases_eq w v) [
      | inl s ↦ inl (same w g s)
      | inr d ↦ inr (not_based p σ n v e h c f (λ k. d (same_Some w v (sym g ∙ k))))
    ]

need_served : (p : Plain) (σ : Selection) (n v : ℕ) → IsWellFormed p → σ n ≡ Some v → v < size_of p n → (need : Need)
    → Contains (needs_of p n v) need → (is_among (σ need.node) need.permitted ≡ true) ⊎ IsRefuting p σ
need_served p σ n v wf e h need c = elim (cases_Bool (is_among (σ need.node) need.permitted)) [
  | inl g ↦ inl g
  | inr g ↦ inr (not_met p σ n v e h need wf c g)
]

version_served : (p : Plain) (σ : Selection) (n v : ℕ) → IsWellFormed p → σ n ≡ Some v → v < size_of p n
    → IsServedAt p σ n v ⊎ IsRefuting p σ
version_served p σ n v wf e h =
    join (cases_Bool (has v (barred_of p n))) (base_served p σ n v (base_of p n) e h refl)
    (each_of (λ (need : Need). is_among (σ need.node) need.permitted ≡ true) (IsRefuting p σ) (needs_of p n v)
    (need_served p σ n v wf e h))
  where
    join : (has v (barred_of p n) ≡ true) ⊎ (has v (barred_of p n) ≡ false)
        → ((b : ℕ) → base_of p n ≡ Some b → σ b ≡ Some v) ⊎ IsRefuting p σ
        → ((need : Need) → Contains (needs_of p n v) need → is_among (σ need.node) need.permitted ≡ true)
        ⊎ IsRefuting p σ → IsServedAt p σ n v ⊎ IsRefuting p σ
    join (inl g) b d = inr (not_fit p σ n v e h g)
    join (inr g) (inr r) d = inr r
    join (inr g) (inl b) (inr r) = inr r
    join (inr g) (inl b) (inl d) = inl (record { fit = g; same_base = b; meets = d })

node_served : (p : Plain) (σ : Selection) (n : ℕ) (o : Option ℕ) → IsWellFormed p → IsTried p σ → σ n ≡ o
    → ((v : ℕ) → σ n ≡ Some v → IsServedAt p σ n v) ⊎ IsRefuting p σ
node_served p σ n None wf t e = inl (λ v f. absurd (none-some v (sym e ∙ f)))
node_served p σ n (Some w) wf t e = elim (version_served p σ n w wf e (t.within n w e)) [
  | inl s ↦ inl (λ v f. subst (IsServedAt p σ n) (same_Some w v (sym e ∙ f)) s)
  | inr r ↦ inr r
]

-- where nothing serves, a step refutes the selection
pub refuting : (p : Plain) (σ : Selection) → IsWellFormed p → HasNone p → IsTried p σ → IsRefuting p σ
refuting p σ wf none t =
    elim (each_below (λ (n : ℕ). (v : ℕ) → σ n ≡ Some v → IsServedAt p σ n v) (IsRefuting p σ) (length p.nodes)
    (λ n l. node_served p σ n (σ n) wf t refl)) [
      | inl all ↦ absurd (none σ (serving all))
      | inr r ↦ r
    ]
  where
    at : ((n : ℕ) → n < length p.nodes → (v : ℕ) → σ n ≡ Some v → IsServedAt p σ n v) → (n v : ℕ) → σ n ≡ Some v
        → IsServedAt p σ n v
    at all n v e = (let f = node_of_size p n v (t.within n v e) in all n (slice_get_within p.nodes n f.0 f.1) v e)

    serving : ((n : ℕ) → n < length p.nodes → (v : ℕ) → σ n ≡ Some v → IsServedAt p σ n v) → Serves p σ
    serving all = record {
      within = t.within;
      has_roots = λ n i. (0, t.rooted n i);
      fit = λ n v e. (at all n v e).fit;
      same_base = λ n v b e f. (at all n v e).same_base b f;
      meets = λ n v e need i. (at all n v e).meets need i;
    }
