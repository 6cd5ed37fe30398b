-- The branches of a tree, one after another.
use Rattle.std.proofs.Common.{◌≡◌, ◌≢◌, ℕ, suc, ◌+◌, ◌≤◌, List, [], ◌∷◌, ◌++◌, refl, ap, sym, ◌∙◌, subst, add-one, Option, Some, None, true}
use Rattle.ul_nodes.specs.Plain.{Plain, truth, node, Branches, done, branch}
use Rattle.ul_nodes.specs.Reduced.{IsReduced}
use Rattle.ul_nodes.specs.Apply.{close, leaf_truth}
use Rattle.ul_nodes.specs.Keys.{key_view, top_of, rest_of, branches_of, branches_from, branch_count, then_branches, is_key_of, has_kind}
use Rattle.ul_nodes.specs.Rows.{made_view}
use Rattle.ul_nodes.specs.declared.level.Key.{Key}
use Rattle.ul_nodes.proofs.ForCallers.{from_end, made_push, then_none}

-- a tree that has a top level is a node
pub a_node : (l : List ℕ) (t : Plain) → Some l ≡ top_of t → top_of t ≢ None
a_node l t e q = let r : Some l ≡ None = e ∙ q in absurd (no r)
  where
    no : Some l ≡ None → ⊥
    no r = cc

-- a tree without a top level is its truth
pub leaf_is : (t : Plain) → None ≡ top_of t → truth (leaf_truth t) ≡ t
leaf_is (truth b) e = refl
leaf_is (node l d bs) e = cc

-- a reduced node is its other part and its branches
pub whole : (l : List ℕ) (t : Plain) → Some l ≡ top_of t → IsReduced t → close l (rest_of t) (branches_of t) ≡ t
whole l (truth b) e h = absurd (no e)
  where
    no : Some l ≡ None → ⊥
    no r = cc
whole l (node k d done) e h = absurd h.1
whole l (node k d (branch j c rest)) e h = ap (λ z. node z d (branch j c rest)) (the_same e)
  where
    the_same : Some l ≡ Some k → l ≡ k
    the_same q = cc

-- the keys of a node's branches are of its level
pub kind_of : (l : List ℕ) (t : Plain) (k : Key) → Some l ≡ top_of t → is_key_of t k ≡ true → has_kind l k ≡ true
kind_of l (truth b) k e h = cc
kind_of l (node j d bs) k e h = subst (λ (z : List ℕ). has_kind z k ≡ true) (sym (the_same e)) h
  where
    the_same : Some l ≡ Some j → l ≡ j
    the_same q = cc

-- one branch more
pub walk_step : {A : Type 0} (view : A → Plain) (bs : Branches) (made next : List (Key × A)) (k : Key) (m : A) (c : Plain) (i : ℕ) → next ≡ made ++ (k, m) ∷ [] → view m ≡ c
    → branches_from i bs ≡ branch (key_view k) c (branches_from (suc i) bs) → then_branches (made_view view made) (branches_from i bs) ≡ bs → then_branches (made_view view next) (branches_from (i + 1) bs) ≡ bs
walk_step view bs made next k m c i p e f h =
    ap (λ z. then_branches (made_view view z) (branches_from (i + 1) bs)) p ∙ made_push view made (k, m) (branches_from (i + 1) bs)
    ∙ ap (λ z. then_branches (made_view view made) (branch (key_view k) z (branches_from (i + 1) bs))) e
    ∙ ap (λ j. then_branches (made_view view made) (branch (key_view k) c (branches_from j bs))) (add-one i)
    ∙ ap (then_branches (made_view view made)) (sym f) ∙ h

-- all branches
pub walk_end : (bs made : Branches) (i : ℕ) → branch_count bs ≤ i → then_branches made (branches_from i bs) ≡ bs → made ≡ bs
walk_end bs made i h e = sym (then_none made) ∙ ap (then_branches made) (sym (from_end bs i h)) ∙ e
