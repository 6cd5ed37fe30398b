-- The steps of joining, and when the joined tree is known at once.
use Rattle.std.proofs.Common.{◌≡◌, ℕ, zero, suc, None, ◌+◌, ◌<◌, List, [], Bool, true, false, not, refl, ap, sym, ◌∙◌, arith, Some}
use Rattle.ul_nodes.specs.Plain.{Plain, truth, node}
use Rattle.ul_nodes.specs.Reduced.{IsReduced}
use Rattle.ul_tree.specs.Values.{value_of, tree_holds}
use Rattle.ul_nodes.specs.Apply.{apply, apply_at, built, first_of, keys, key_union, branches_at, rest_at, part_at, size, both, either, truth_value, leaf_truth}
use Rattle.ul_tree.specs.Laws.{joined_by, not_of}
use Rattle.ul_tree.specs.JoinSteps.{HasJoinedTruth, JoinsTo, ApplySteps, JoinShortcuts, first_alone, Implies, ImpliesByJoin}
use Rattle.ul_tree.specs.Joins.{past_truth}
use Rattle.ul_tree.proofs.Applied.{applied}
use Rattle.ul_tree.proofs.Smaller.{rests_smaller, parts_smaller}
use Rattle.ul_tree.proofs.Steps.{rest_at_reduced, part_at_reduced}
use Rattle.ul_tree.proofs.JoinedTrees.{operations}
use Rattle.ul_tree.proofs.Extras.{one_truth_one_tree}

-- ---- steps

pub enough : (op : Bool → Bool → Bool) (n : ℕ) (a b : Plain) → IsReduced a → IsReduced b → size a + size b < n → apply op n a b ≡ joined_by op a b
enough op n a b x y h =
    let p = applied op n a b [] h x y in
    let q = applied op (suc (size a + size b)) a b [] (omega arith) x y in
    one_truth_one_tree (apply op n a b) (joined_by op a b) p.0 q.0 (λ w e is ascii extra. p.1 (value_of w e) ∙ sym (q.1 (value_of w e)))

at_level : (op : Bool → Bool → Bool) (l : List ℕ) (a b : Plain) → IsReduced a → IsReduced b → Some l ≡ first_of a b
    → joined_by op a b ≡ built l (λ v. joined_by op (part_at l v a) (part_at l v b)) (joined_by op (rest_at l a) (rest_at l b)) (key_union (keys (branches_at l a)) (keys (branches_at l b)))
at_level op l a b x y first =
    let ks = key_union (keys (branches_at l a)) (keys (branches_at l b)) in
    let n = size a + size b in
    ap (λ z. apply_at op (apply op n) z a b) (sym first)
    ∙ (λ i. built l (λ v. enough op n (part_at l v a) (part_at l v b) (part_at_reduced l v a x) (part_at_reduced l v b y) (parts_smaller a b l v first) i)
    (enough op n (rest_at l a) (rest_at l b) (rest_at_reduced l a x) (rest_at_reduced l b y) (rests_smaller a b l first) i) ks)

pub one_result : (op : Bool → Bool → Bool) (a b t : Plain) → IsReduced a → IsReduced b → IsReduced t → HasJoinedTruth op a b t → t ≡ joined_by op a b
one_result op a b t x y z has =
    one_truth_one_tree t (joined_by op a b) z (operations.join_reduced op a b x y) (λ w e is ascii extra. has w e is extra ∙ sym (operations.join_truth op a b x y w e))

pub apply_steps : ApplySteps
apply_steps = record {
  at_truths = λ op x y. refl;
  at_level = at_level;
  rest_smaller = λ l a b first. rests_smaller a b l first;
  part_smaller = λ l v a b first. parts_smaller a b l v first;
  enough = enough;
  one_result = one_result;
}

-- ---- answers known at once

-- a tree of the joined truth is the answer of any joining with enough turns
pub at_once : (op : Bool → Bool → Bool) (a b t : Plain) → IsReduced a → IsReduced b → IsReduced t → HasJoinedTruth op a b t → (n : ℕ) → size a + size b < n → t ≡ apply op n a b
at_once op a b t x y z has n h = one_result op a b t x y z has ∙ sym (enough op n a b x y h)

not_not : (b : Bool) → b ≡ not (not b)
not_not true = refl
not_not false = refl

pub join_shortcuts : JoinShortcuts
join_shortcuts = record {
  absorbing_first = λ op x z b y f. sym (one_result op (truth x) b (truth z) tt y tt (λ w e is extra. sym (f (tree_holds b w e))));
  absorbing_second = λ op x z a y f. sym (one_result op a (truth x) (truth z) y tt tt (λ w e is extra. sym (f (tree_holds a w e))));
  neutral_first = λ op x b y f. sym (one_result op (truth x) b b tt y y (λ w e is extra. sym (f (tree_holds b w e))));
  neutral_second = λ op x a y f. sym (one_result op a (truth x) a y tt y (λ w e is extra. sym (f (tree_holds a w e))));
  equal_sides = λ op a y f. sym (one_result op a a a y y y (λ w e is extra. sym (f (tree_holds a w e))));
  double_negation = λ a y.
      let n = operations.join_reduced (λ p q. not p) a (truth false) y tt in
      sym (one_result (λ p q. not p) (not_of a) (truth false) a n tt y (λ w e is extra. not_not (tree_holds a w e) ∙ ap not (sym (operations.join_truth (λ p q. not p) a (truth false) y tt w e))));
}

-- what the code answers at once

pub joins_both : (x : Bool) (b : Plain) → IsReduced b → JoinsTo both (truth x) b (past_truth true x b)
joins_both true b h = record { reduced = h; truth = λ w e is extra. refl }
joins_both false b h = record { reduced = tt; truth = λ w e is extra. refl }

pub joins_either : (x : Bool) (b : Plain) → IsReduced b → JoinsTo either (truth x) b (past_truth false x b)
joins_either true b h = record { reduced = tt; truth = λ w e is extra. refl }
joins_either false b h = record { reduced = h; truth = λ w e is extra. refl }

both_true : (y : Bool) → y ≡ both y true
both_true true = refl
both_true false = refl

both_false : (y : Bool) → false ≡ both y false
both_false true = refl
both_false false = refl

either_true : (y : Bool) → true ≡ either y true
either_true true = refl
either_true false = refl

either_false : (y : Bool) → y ≡ either y false
either_false true = refl
either_false false = refl

pub both_joins : (x : Bool) (a : Plain) → IsReduced a → JoinsTo both a (truth x) (past_truth true x a)
both_joins true a h = record { reduced = h; truth = λ w e is extra. both_true (tree_holds a w e) }
both_joins false a h = record { reduced = tt; truth = λ w e is extra. both_false (tree_holds a w e) }

pub either_joins : (x : Bool) (a : Plain) → IsReduced a → JoinsTo either a (truth x) (past_truth false x a)
either_joins true a h = record { reduced = tt; truth = λ w e is extra. either_true (tree_holds a w e) }
either_joins false a h = record { reduced = h; truth = λ w e is extra. either_false (tree_holds a w e) }

pub truth_is : (t : Plain) (x : Bool) → Some x ≡ truth_value t → truth x ≡ t
truth_is (truth b) x e = let q : x ≡ b = cc in ap truth q
truth_is (node l d bs) x e = cc

-- ---- implication

then_second : (x y : Bool) → first_alone x y ≡ false → x ≡ true → y ≡ true
then_second true true e h = refl
then_second true false e h = absurd (cc)
then_second false y e h = absurd (cc)

never_alone : (x y : Bool) → (x ≡ true → y ≡ true) → false ≡ first_alone x y
never_alone true true f = refl
never_alone true false f = let e = f refl in absurd (cc)
never_alone false y f = refl

pub implies_by_join : ImpliesByJoin
implies_by_join a b x y = (to, back)
  where
    to : joined_by first_alone a b ≡ truth false → Implies a b
    to e w z is extra holds = then_second (tree_holds a w z) (tree_holds b w z) (sym (operations.join_truth first_alone a b x y w z) ∙ ap (λ t. tree_holds t w z) e) holds

    back : Implies a b → joined_by first_alone a b ≡ truth false
    back f = sym (one_result first_alone a b (truth false) x y tt (λ w z is extra. never_alone (tree_holds a w z) (tree_holds b w z) (f w z is extra)))

-- the join of two truths
pub truths_joined : (op : Bool → Bool → Bool) (a b t : Plain) → None ≡ first_of a b → t ≡ truth (op (leaf_truth a) (leaf_truth b)) → (n : ℕ) → size a + size b < n → t ≡ apply op n a b
truths_joined op (truth x) (truth y) t first e zero h = absurd (omega (arith, h))
truths_joined op (truth x) (truth y) t first e (suc n) h = e
truths_joined op (truth x) (node k d bs) t first e n h = cc
truths_joined op (node l d bs) (truth y) t first e n h = cc
truths_joined op (node l d bs) (node k c cs) t first e n h = cc
