-- When the join of two diagrams is known at once, and when the two sides may change places.
use Rattle.std.proofs.Common.{◌≡◌, ℕ, zero, suc, ◌+◌, ◌<◌, Bool, true, false, Option, Some, None, refl, ap, ◌∙◌, arith, if◌then◌else◌}
use Rattle.ul_nodes.specs.Apply.{size, apply, first_of, leaf_truth, truth_value}
use Rattle.ul_tree.specs.JoinSteps.{HasJoinedTruth, JoinsTo}
use Rattle.ul_tree.specs.Laws.{joined_by}
use Rattle.ul_nodes.specs.Plain.{Plain, truth, node}
use Rattle.ul_nodes.specs.Reduced.{IsReduced}
use Rattle.ul_nodes.specs.Rows.{IfSome}
use Rattle.ul_tree.specs.Values.{tree_holds}
use Rattle.ul_tree.proofs.ForCallers.{at_once, operations}
use Rattle.ul_algebra.specs.Joinings.{Commutes, FollowsSide, IsJoinedBy, at_once_tree}
use Rattle.ul_algebra.specs.declared.questions.AtOnce.{AtOnce}
use Rattle.ul_algebra.specs.declared.questions.AtOnce.TheVariants.{First, Second}

-- what follows for each answer follows for an answer, if there is one
pub answer_then : (P Q : AtOnce → Type 0) (o : Option AtOnce) → ((k : AtOnce) → P k → Q k) → IfSome P o → IfSome Q o
answer_then P Q None f h = tt
answer_then P Q (Some k) f h = f k h

-- ---- joins that are known at once

first_told : (op : Bool → Bool → Bool) (x y : Bool) → (if y then op x true else op x false) ≡ op x y
first_told op x true = refl
first_told op x false = refl

second_told : (op : Bool → Bool → Bool) (x y : Bool) → (if x then op true y else op false y) ≡ op x y
second_told op true y = refl
second_told op false y = refl

both_told : (op : Bool → Bool → Bool) (x : Bool) → (if x then op true true else op false false) ≡ op x x
both_told op true = refl
both_told op false = refl

truth_is : (t : Plain) (x : Bool) → Some x ≡ truth_value t → truth x ≡ t
truth_is (truth b) x e = let q : x ≡ b = cc in ap truth q
truth_is (node l d bs) x e = cc

-- the first is a truth
pub first_known : (op : Bool → Bool → Bool) (a b : Plain) (p q x : Bool) (k : AtOnce) → Some x ≡ truth_value a → IsReduced b → p ≡ op x true → q ≡ op x false → FollowsSide p q Second k → JoinsTo op a b (at_once_tree a b k)
first_known op a b p q x k e r l m f =
    let g = f a b in
    record {
      reduced = g.reduced r;
      truth = λ w z is extra.
          g.truth w z ∙ (λ i. if tree_holds b w z then l i else m i) ∙ first_told op x (tree_holds b w z) ∙ ap (λ t. op (tree_holds t w z) (tree_holds b w z)) (truth_is a x e);
    }

-- the second is a truth
pub second_known : (op : Bool → Bool → Bool) (a b : Plain) (p q y : Bool) (k : AtOnce) → Some y ≡ truth_value b → IsReduced a → p ≡ op true y → q ≡ op false y → FollowsSide p q First k → JoinsTo op a b (at_once_tree a b k)
second_known op a b p q y k e r l m f =
    let g = f a b in
    record {
      reduced = g.reduced r;
      truth = λ w z is extra.
          g.truth w z ∙ (λ i. if tree_holds a w z then l i else m i) ∙ second_told op (tree_holds a w z) y ∙ ap (λ t. op (tree_holds a w z) (tree_holds t w z)) (truth_is b y e);
    }

-- both are one
pub equal_known : (op : Bool → Bool → Bool) (a b : Plain) (p q : Bool) (k : AtOnce) → a ≡ b → IsReduced a → p ≡ op true true → q ≡ op false false → FollowsSide p q First k → JoinsTo op a b (at_once_tree a b k)
equal_known op a b p q k e r l m f =
    let g = f a b in
    record {
      reduced = g.reduced r;
      truth = λ w z is extra.
          g.truth w z ∙ (λ i. if tree_holds a w z then l i else m i) ∙ both_told op (tree_holds a w z) ∙ ap (λ t. op (tree_holds a w z) (tree_holds t w z)) e;
    }

-- so it is the join
pub joined_at_once : (op : Bool → Bool → Bool) (a b k t : Plain) → IsReduced a → IsReduced b → JoinsTo op a b k → t ≡ k → IsJoinedBy op a b t
joined_at_once op a b k t ra rb j e n h = e ∙ at_once op a b k ra rb j.reduced j.truth n h

-- the join of two truths
pub truths_joined : (op : Bool → Bool → Bool) (a b t : Plain) → None ≡ first_of a b → t ≡ truth (op (leaf_truth a) (leaf_truth b)) → (n : ℕ) → size a + size b < n → t ≡ apply op n a b
truths_joined op (truth x) (truth y) t first e zero h = absurd (omega (arith, h))
truths_joined op (truth x) (truth y) t first e (suc n) h = e
truths_joined op (truth x) (node k d bs) t first e n h = cc
truths_joined op (node l d bs) (truth y) t first e n h = cc
truths_joined op (node l d bs) (node k c cs) t first e n h = cc

-- ---- two sides that change places

pub swapped : (op : Bool → Bool → Bool) (a b t : Plain) → Commutes op → IsReduced a → IsReduced b → IsReduced t → IsJoinedBy op b a t → IsJoinedBy op a b t
swapped op a b t turn ra rb rt h = at_once op a b t ra rb rt has
  where
    e : t ≡ joined_by op b a
    e = h (suc (size b + size a)) (omega arith)

    has : HasJoinedTruth op a b t
    has w x is extra = ap (λ z. tree_holds z w x) e ∙ operations.join_truth op b a rb ra w x ∙ turn (tree_holds b w x) (tree_holds a w x)
