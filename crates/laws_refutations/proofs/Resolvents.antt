-- Two lists of terms in order have a resolvent on each node, and it holds where both lists do, and on the node of the
-- cut where one of the two does.
use Rattle.std.proofs.Common.{◌≡◌, ℕ, zero, suc, ◌+◌, ◌<◌, ◌≤◌, ◌⊎◌, inl, inr, List, [], ◌∷◌, ◌++◌, drop, length, Bool, true, false, cond, Option, Some, None, arith, refl, ap, ◌∙◌, nat_eq, nat_lt, eq-eqb}
use Rattle.std.proofs.lemmas.Bool.{ne_eqb}
use Rattle.std.specs.Option.{option_to_list}
use Rattle.ul_problem.specs.Terms.{node_of, allows, meet_of, join_of, term_on, may_hold, IsOrdered}
use Rattle.ul_problem.specs.Steps.{met_terms, joined_terms, IsResolvent}
use Rattle.ul_problem.specs.Turns.{turn_of, left_turn, right_turn, both_turn}
use Rattle.ul_problem.specs.declared.term.Term.{Term}
use Rattle.ul_problem.proofs.ForCallers.{allows-meet, allows-join, may_hold-written, and_both}
use Rattle.ul_problem.proofs.Merging.{IsMerging, head_of, turned, merging_starts, merging_ends}

-- a turn of a merge takes a term at least
abbrev IsShorter : List Term → List Term → ℕ → ℕ → Type 0
IsShorter l r a b = length (drop a l) + length (drop b r) < length l + length r

shorter : (m : ℕ) (l r : List Term) → 0 < length l + length r
    → IsShorter l r (turn_of m (head_of l) (head_of r)).left (turn_of m (head_of l) (head_of r)).right
shorter m [] [] h = absurd (omega arith)
shorter m [] (u ∷ r) h = omega arith
shorter m (t ∷ l) [] h = omega arith
shorter m (t ∷ l) (u ∷ r) h = which (nat_eq (node_of t) (node_of u)) (nat_lt (node_of u) (node_of t))
  where
    which : (b c : Bool)
        → IsShorter (t ∷ l) (u ∷ r) (cond b (both_turn m t u) (cond c (right_turn m u) (left_turn m t))).left
        (cond b (both_turn m t u) (cond c (right_turn m u) (left_turn m t))).right
    which true c = omega arith
    which false true = omega arith
    which false false = omega arith

merged : (m k : ℕ) (left right out l r : List Term) → IsMerging m left right out l r → length l + length r ≤ k
    → (ts : List Term) × IsResolvent m left right ts
merged m k left right out [] [] s h = (out, merging_ends m left right out s)
merged m zero left right out (t ∷ l) r s h = absurd (omega arith)
merged m zero left right out [] (u ∷ r) s h = absurd (omega arith)
merged m (suc k) left right out (t ∷ l) r s h =
    let turn = turn_of m (Some t) (head_of r) in
    let less = shorter m (t ∷ l) r (omega arith) in
    let on = turned m left right out (t ∷ l) r s in
    merged m k left right (out ++ option_to_list turn.term) (drop turn.left (t ∷ l)) (drop turn.right r) on
    (omega (arith, less))
merged m (suc k) left right out [] (u ∷ r) s h =
    let turn = turn_of m None (Some u) in
    let less = shorter m [] (u ∷ r) (omega arith) in
    let on = turned m left right out [] (u ∷ r) s in
    merged m k left right (out ++ option_to_list turn.term) (drop turn.left []) (drop turn.right (u ∷ r)) on
    (omega (arith, less))

-- the resolvent is there
pub resolved : (m : ℕ) (left right : List Term) → IsOrdered left → IsOrdered right
    → (ts : List Term) × IsResolvent m left right ts
resolved m left right a b =
    merged m (length left + length right) left right [] left right (merging_starts m left right a b) (omega arith)

-- its terms: joined on the node of the cut, met on every other, and none where neither list has one
on_cut : (m : ℕ) (left right ts : List Term) → IsResolvent m left right ts
    → term_on m ts ≡ joined_terms (term_on m left) (term_on m right)
on_cut m left right ts r =
    let t : Option Term = term_on m left in
    let u : Option Term = term_on m right in
    r.each m ∙ ap (λ (b : Bool). cond b (joined_terms t u) (met_terms t u)) (eq-eqb m m refl)

off_cut : (m k : ℕ) (left right ts : List Term) → IsResolvent m left right ts → (k ≡ m → ⊥)
    → term_on k ts ≡ met_terms (term_on k left) (term_on k right)
off_cut m k left right ts r n =
    let t : Option Term = term_on k left in
    let u : Option Term = term_on k right in
    r.each k ∙ ap (λ (b : Bool). cond b (joined_terms t u) (met_terms t u)) (ne_eqb k m n)

pub none_on : (m k : ℕ) (left right ts : List Term) → IsResolvent m left right ts → term_on k left ≡ None
    → term_on k right ≡ None → term_on k ts ≡ None
none_on m k left right ts r e f = r.each k ∙ which (nat_eq k m) (term_on k left) (term_on k right) e f
  where
    which : (b : Bool) (t u : Option Term) → t ≡ None → u ≡ None → cond b (joined_terms t u) (met_terms t u) ≡ None
    which true None u a c = refl
    which true (Some t) u a c = cc
    which false None u a c = c
    which false (Some t) u a c = cc

-- what it holds of
met_both : (t u : Option Term) (o : Option ℕ) → may_hold t o ≡ true → may_hold u o ≡ true
    → may_hold (met_terms t u) o ≡ true
met_both None u o a b = b
met_both (Some t) None o a b = a
met_both (Some t) (Some u) o a b =
    may_hold-written (meet_of t u) o ∙ (allows-meet t u o ∙ and_both (allows t o) (allows u o) a b)

or_one : (x y : Bool) → (x ≡ true) ⊎ (y ≡ true) → cond x true y ≡ true
or_one true y h = refl
or_one false y (inl e) = cc
or_one false y (inr e) = e

joined_one : (t u : Option Term) (o : Option ℕ) → (may_hold t o ≡ true) ⊎ (may_hold u o ≡ true)
    → may_hold (joined_terms t u) o ≡ true
joined_one None u o h = refl
joined_one (Some t) None o h = refl
joined_one (Some t) (Some u) o h =
    may_hold-written (join_of t u) o ∙ (allows-join t u o ∙ or_one (allows t o) (allows u o) h)

pub holds_off : (m k : ℕ) (left right ts : List Term) (o : Option ℕ) → IsResolvent m left right ts → (k ≡ m → ⊥)
    → may_hold (term_on k left) o ≡ true → may_hold (term_on k right) o ≡ true → may_hold (term_on k ts) o ≡ true
holds_off m k left right ts o r n a b =
    ap (λ (t : Option Term). may_hold t o) (off_cut m k left right ts r n)
    ∙ met_both (term_on k left) (term_on k right) o a b

pub holds_on : (m : ℕ) (left right ts : List Term) (o : Option ℕ) → IsResolvent m left right ts
    → (may_hold (term_on m left) o ≡ true) ⊎ (may_hold (term_on m right) o ≡ true) → may_hold (term_on m ts) o ≡ true
holds_on m left right ts o r h =
    ap (λ (t : Option Term). may_hold t o) (on_cut m left right ts r)
    ∙ joined_one (term_on m left) (term_on m right) o h
