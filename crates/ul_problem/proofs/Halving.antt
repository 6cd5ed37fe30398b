-- Looking up a node by halves.
use Rattle.std.proofs.Common.{◌≡◌, ℕ, zero, suc, ◌+◌, ◌<◌, ◌≤◌, List, [], ◌∷◌, Some, None, length, slice_get, arith, refl, sym, ap, subst, ◌∙◌, inl, inr}
use Rattle.std.specs.declared.cmp.Ordering.{Ordering}
use Rattle.std.specs.declared.cmp.Ordering.TheVariants.{Less, Equal, Greater}
use Rattle.std.specs.Ordering.{ordering_reverse}
use Rattle.std.proofs.lemmas.Bool.{cases_order}
use Rattle.std.proofs.lemmas.Option.{none-some, same_Some, slice_get_within}
use Rattle.ul_base.specs.declared.node.Node.{Node}
use Rattle.ul_base.specs.Nodes.{node_cmp, node_cmp-total}
use Rattle.ul_problem.specs.Problems.{Increases, IncreasesFrom, NodeBefore}
use Rattle.ul_problem.specs.Finding.{IsFound}
use Rattle.ul_problem.specs.declared.problem.NodeFacts.{NodeFacts}

-- of a list that increases, an earlier element is related to a later one
rises_from : {A : Type 0} (R : A → A → Type 0) → ((x y z : A) → R x y → R y z → R x z) → (x : A) (ys : List A) (j : ℕ) (y : A) → IncreasesFrom R x ys → slice_get ys j ≡ Some y → R x y
rises_from R trans x [] j y h e = absurd (none-some y e)
rises_from R trans x (z ∷ zs) zero y h e = subst (R x) (same_Some z y e) h.0
rises_from R trans x (z ∷ zs) (suc j) y h e = trans x z y h.0 (rises_from R trans z zs j y h.1 e)

from_all : {A : Type 0} (R : A → A → Type 0) (x : A) (ys : List A) → IncreasesFrom R x ys → Increases R ys
from_all R x [] h = tt
from_all R x (y ∷ ys) h = h.1

pub rises_between : {A : Type 0} (R : A → A → Type 0) → ((x y z : A) → R x y → R y z → R x z) → (xs : List A) (i j : ℕ) (x y : A) → Increases R xs → i < j
    → slice_get xs i ≡ Some x → slice_get xs j ≡ Some y → R x y
rises_between R trans [] i j x y h l e f = absurd (none-some x e)
rises_between R trans (z ∷ zs) i zero x y h l e f = absurd (omega arith)
rises_between R trans (z ∷ zs) zero (suc j) x y h l e f = subst (λ w. R w y) (same_Some z x e) (rises_from R trans z zs j y h f)
rises_between R trans (z ∷ zs) (suc i) (suc j) x y h l e f = rises_between R trans zs i j x y (from_all R z zs h) (omega arith) e f

before_trans : (f g h : NodeFacts) → NodeBefore f g → NodeBefore g h → NodeBefore f h
before_trans f g h = node_cmp-total.trans f.node g.node h.node

-- each node before a place is less, and each from a place on is greater
pub record IsHalved (nodes : List NodeFacts) (node : Node) (low high : ℕ) : Type 0 where
  pub order : low ≤ high
  pub within : high ≤ length nodes
  pub below : (k : ℕ) (f : NodeFacts) → k < low → slice_get nodes k ≡ Some f → node_cmp f.node node ≡ Less
  pub above : (k : ℕ) (f : NodeFacts) → high ≤ k → slice_get nodes k ≡ Some f → node_cmp f.node node ≡ Greater

pub halves_begin : (nodes : List NodeFacts) (node : Node) (n : ℕ) → n ≡ length nodes → IsHalved nodes node 0 n
halves_begin nodes node n e = record {
  order = omega arith;
  within = omega arith;
  below = λ k f l. absurd (omega arith);
  above = λ k f l g. absurd (let i = slice_get_within nodes k f g in omega arith);
}

less_greater : (a b : Node) → node_cmp b a ≡ Greater → node_cmp a b ≡ Less
less_greater a b e = node_cmp-total.antisymm a b ∙ ap ordering_reverse e

greater_less : (a b : Node) → node_cmp b a ≡ Less → node_cmp a b ≡ Greater
greater_less a b e = node_cmp-total.antisymm a b ∙ ap ordering_reverse e

pub halves_up : (nodes : List NodeFacts) (node : Node) (low high middle : ℕ) (f : NodeFacts) → Increases NodeBefore nodes → IsHalved nodes node low high → low ≤ middle → middle < high
    → slice_get nodes middle ≡ Some f → node_cmp f.node node ≡ Less → IsHalved nodes node (middle + 1) high
halves_up nodes node low high middle f inc h l m e less = record {
  order = omega arith;
  within = h.within;
  below = λ k g a i. elim (cases_order k middle) [
    | inl s ↦ subst (λ (x : NodeFacts). node_cmp x.node node ≡ Less) (same_Some f g (sym e ∙ ap (slice_get nodes) (sym s) ∙ i)) less
    | inr (inl s) ↦ node_cmp-total.trans g.node f.node node (rises_between NodeBefore before_trans nodes k middle g f inc s i e) less
    | inr (inr s) ↦ absurd (omega arith)
  ];
  above = h.above;
}

pub halves_down : (nodes : List NodeFacts) (node : Node) (low high middle : ℕ) (f : NodeFacts) → Increases NodeBefore nodes → IsHalved nodes node low high → low ≤ middle → middle < high
    → slice_get nodes middle ≡ Some f → node_cmp f.node node ≡ Greater → IsHalved nodes node low middle
halves_down nodes node low high middle f inc h l m e greater = record {
  order = l;
  within = let w = h.within in omega arith;
  below = h.below;
  above = λ k g a i. elim (cases_order k middle) [
    | inl s ↦ subst (λ (x : NodeFacts). node_cmp x.node node ≡ Greater) (same_Some f g (sym e ∙ ap (slice_get nodes) (sym s) ∙ i)) greater
    | inr (inl s) ↦ absurd (omega arith)
    | inr (inr s) ↦ greater_less g.node node (node_cmp-total.trans node f.node g.node (less_greater node f.node greater) (rises_between NodeBefore before_trans nodes middle k f g inc s e i))
  ];
}

level_same : (a b : Node) → a ≡ b → node_cmp a b ≡ Equal
level_same a b e = subst (λ (c : Node). node_cmp a c ≡ Equal) e (level (node_cmp a a) (node_cmp-total.antisymm a a))
  where
    level : (o : Ordering) → o ≡ ordering_reverse o → o ≡ Equal
    level Less h = cc
    level Equal h = refl
    level Greater h = cc

pub halves_end : (nodes : List NodeFacts) (node : Node) (low high : ℕ) → IsHalved nodes node low high → high ≤ low → IsFound nodes node None
halves_end nodes node low high h l = λ k (f, e, s). elim (cases_order k low) [
  | inl i ↦ cc (level_same f.node node s, h.above k f (omega arith) e)
  | inr (inl i) ↦ cc (level_same f.node node s, h.below k f i e)
  | inr (inr i) ↦ cc (level_same f.node node s, h.above k f (omega arith) e)
]
