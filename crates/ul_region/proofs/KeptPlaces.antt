-- Requirements at places that don't fall.
use Rattle.std.specs.Prelude.{Contains, slice_get}
use Rattle.std.proofs.Common.{◌≡◌, ◌+◌, ◌-◌, ◌<◌, ◌≤◌, inl, inr, ℕ, zero, suc, List, [], ◌∷◌, ◌++◌, length, get_or, drop, take, cond, Bool, true, false, Some, arith, refl, sym, ap, subst, ◌∙◌, append_assoc}
use Rattle.std.specs.List.Sorted.{IsNonDecreasing}
use Rattle.std.proofs.lemmas.Bool.{cases_lt}
use Rattle.std.proofs.lemmas.List.{append-nil, drop_all, drop_more, get_or_default}
use Rattle.std.proofs.lemmas.List.Elements.{filter_more}
use Rattle.std.proofs.lemmas.Option.{slice_get_within, slice_get-get_or}
use Rattle.ul_base.specs.declared.node.Node.{Node}
use Rattle.ul_requirement.specs.Fields.{RequirementFields}
use Rattle.ul_requirement.specs.Truth.{may_apply}
use Rattle.ul_region.specs.Rows.{asked_at}

-- the requirements from a place on that may be true at a node
abbrev pub asked_from : List RequirementFields → Node → ℕ → List RequirementFields
asked_from qs n i = asked_at n (drop i qs)

-- the requirement at a place may be true at the node, or it isn't
one_more : (qs : List RequirementFields) (n : Node) (i : ℕ) (q : RequirementFields) → i < length qs → q ≡ get_or qs i q → asked_from qs n i ≡ cond (may_apply q n) (q ∷ asked_from qs n (i + 1)) (asked_from qs n (i + 1))
one_more qs n i q lt at = ap (asked_at n) (drop_more qs i q lt ∙ ap (λ (x : RequirementFields). x ∷ drop (i + 1) qs) (sym at))

-- one requirement more of a list, all of which are looked at
pub kept_more : (n : Node) (qs : List RequirementFields) (i : ℕ) (q : RequirementFields) (before now : List RequirementFields) → i < length qs → q ≡ get_or qs i q
    → now ≡ before ++ cond (may_apply q n) (q ∷ []) [] → before ≡ asked_at n (take i qs) → now ≡ asked_at n (take (i + 1) qs)
kept_more n qs i q before now lt at is have =
    is ∙ (λ j. have j ++ cond (may_apply (at j) n) (at j ∷ []) []) ∙ sym (filter_more (λ (p : RequirementFields). may_apply p n) qs i q lt)

-- between two places none may be true at the node
abbrev pub AreNone : List RequirementFields → Node → ℕ → ℕ → Type 0
AreNone qs n from to = (k : ℕ) (q : RequirementFields) → from ≤ k → k < to → slice_get qs k ≡ Some q → may_apply q n ≡ true → ⊥

skip_by : (qs : List RequirementFields) (n : Node) (i : ℕ) (q : RequirementFields) (b : Bool) → may_apply q n ≡ b → (may_apply q n ≡ true → ⊥) → asked_from qs n i ≡ cond b (q ∷ asked_from qs n (i + 1)) (asked_from qs n (i + 1))
    → asked_from qs n i ≡ asked_from qs n (i + 1)
skip_by qs n i q true e none is = absurd (none e)
skip_by qs n i q false e none is = is

skip_one : (qs : List RequirementFields) (n : Node) (i : ℕ) → i < length qs → AreNone qs n i (i + 1) → asked_from qs n i ≡ asked_from qs n (i + 1)
skip_one [] n i lt none = absurd (omega (arith, lt))
skip_one (p ∷ ps) n i lt none =
    let qs = p ∷ ps in
    let q = get_or qs i p in
    let at : slice_get qs i ≡ Some q = slice_get-get_or qs i p lt in
    skip_by qs n i q (may_apply q n) refl (λ h. none i q (omega arith) (omega arith) at h)
    (ap (asked_at n) (drop_more qs i p lt))

skip_many : (qs : List RequirementFields) (n : Node) (from d : ℕ) → from + d ≤ length qs → AreNone qs n from (from + d) → asked_from qs n from ≡ asked_from qs n (from + d)
skip_many qs n from zero l none = ap (asked_from qs n) (omega arith)
skip_many qs n from (suc d) l none =
    skip_many qs n from d (omega (arith, l)) (λ k q a b. none k q a (omega (arith, b)))
    ∙ (skip_one qs n (from + d) (omega (arith, l)) (λ k q a b. none k q (omega (arith, a)) (omega (arith, b)))
    ∙ ap (asked_from qs n) (omega arith))

skip : (qs : List RequirementFields) (n : Node) (from to : ℕ) → from ≤ to → to ≤ length qs → AreNone qs n from to → asked_from qs n from ≡ asked_from qs n to
skip qs n from to le l none =
    let up : from + (to - from) ≡ to = omega (arith, le) in
    subst (λ (i : ℕ). asked_from qs n from ≡ asked_from qs n i) up
    (skip_many qs n from (to - from) (omega (arith, up, l)) (subst (AreNone qs n from) (sym up) none))

-- What was found, and what is left from a place on, are those that may be true at the node; those that are left stand at places that are left.
pub record IsWalk (qs : List RequirementFields) (n : Node) (places : List ℕ) (found : List RequirementFields) (i from : ℕ) : Type 0 where
  pub within : from ≤ length qs
  pub all : found ++ asked_from qs n from ≡ asked_at n qs
  pub left : (k : ℕ) (q : RequirementFields) → from ≤ k → slice_get qs k ≡ Some q → may_apply q n ≡ true → (j : ℕ) × (i ≤ j) × (j < length places) × (get_or places j 0 ≡ k)

module _ (qs : List RequirementFields) (n : Node) (places : List ℕ) (found : List RequirementFields) (i from : ℕ) (lt : i < length places) (w : IsWalk qs n places found i from) where
  -- a place that was passed before, or is none of a requirement
  pub walk_past : (place : ℕ) → place ≡ get_or places i 0 → ((k : ℕ) → from ≤ k → k < length qs → place ≡ k → ⊥) → IsWalk qs n places found (i + 1) from
  walk_past place at past = record {
    within = w.within;
    all = w.all;
    left = λ k q f there may. let l = w.left k q f there may in elim (cases_lt i l.0) [
      | inl less ↦ (l.0, omega (arith, less), l.2, l.3)
      | inr not ↦ absurd (past k f (slice_get_within qs k q there) (at ∙ (ap (λ (m : ℕ). get_or places m 0) (same l.0 l.1 not) ∙ l.3)))
    ];
  }
    where
      same : (j : ℕ) → i ≤ j → j ≤ i → i ≡ j
      same j a b = omega (arith, a, b)

  module _ (rising : IsNonDecreasing places) (place : ℕ) (at : place ≡ get_or places i 0) (late : from ≤ place) (in_list : place < length qs) where
    none_before : AreNone qs n from place
    none_before k q f b there may =
        let l = w.left k q f there may in
        let up : get_or places i 0 ≤ get_or places l.0 0 = rising i l.0 0 l.1 l.2 in
        absurd (omega (arith, up, at, l.3, b))

    left_after : (k : ℕ) (q : RequirementFields) → place + 1 ≤ k → slice_get qs k ≡ Some q → may_apply q n ≡ true → (j : ℕ) × (i + 1 ≤ j) × (j < length places) × (get_or places j 0 ≡ k)
    left_after k q f there may = let l = w.left k q (omega (arith, f, late)) there may in elim (cases_lt i l.0) [
      | inl less ↦ (l.0, omega (arith, less), l.2, l.3)
      | inr not ↦ (let e : place ≡ k = at ∙ (ap (λ (m : ℕ). get_or places m 0) (omega (arith, l.1, not)) ∙ l.3) in absurd (omega (arith, e, f)))
    ]

    reached : found ++ asked_from qs n place ≡ asked_at n qs
    reached = ap (λ (l : List RequirementFields). found ++ l) (sym (skip qs n from place late (omega (arith, in_list)) none_before)) ∙ w.all

    kept_by : (q : RequirementFields) (b : Bool) → asked_from qs n place ≡ cond b (q ∷ asked_from qs n (place + 1)) (asked_from qs n (place + 1)) → (found ++ cond b (q ∷ []) []) ++ asked_from qs n (place + 1) ≡ asked_at n qs
    kept_by q true here = append_assoc found (q ∷ []) (asked_from qs n (place + 1)) ∙ (ap (λ (l : List RequirementFields). found ++ l) (sym here) ∙ reached)
    kept_by q false here = ap (λ (l : List RequirementFields). l ++ asked_from qs n (place + 1)) (append-nil found) ∙ (ap (λ (l : List RequirementFields). found ++ l) (sym here) ∙ reached)

    -- the requirement there is found, if it may be true at the node
    pub walk_on : (q : RequirementFields) (now : List RequirementFields) → q ≡ get_or qs place q → now ≡ found ++ cond (may_apply q n) (q ∷ []) [] → IsWalk qs n places now (i + 1) (place + 1)
    walk_on q now there e = record {
      within = omega (arith, in_list);
      all = ap (λ (l : List RequirementFields). l ++ asked_from qs n (place + 1)) e ∙ kept_by q (may_apply q n) (one_more qs n place q in_list there);
      left = left_after;
    }

-- no place is left
pub walk_end : (qs : List RequirementFields) (n : Node) (places : List ℕ) (found : List RequirementFields) (i from : ℕ) → length places ≤ i → IsWalk qs n places found i from → found ≡ asked_at n qs
walk_end qs n places found i from l w =
    let none : AreNone qs n from (length qs) = λ k q f b there may. (let p = w.left k q f there may in absurd (omega (arith, l, p.1, p.2))) in
    sym (append-nil found)
    ∙ (ap (λ (x : List RequirementFields). found ++ x) (sym (skip qs n from (length qs) w.within (omega arith) none ∙ ap (asked_at n) (drop_all (length qs) qs (omega arith)))) ∙ w.all)
