-- Places in lists that increase.
use Rattle.std.specs.Prelude.{slice_get}
use Rattle.std.proofs.Common.{◌≡◌, ◌<◌, ℕ, zero, suc, List, [], ◌∷◌, Some, map, refl, sym, ap, subst, ◌∙◌, arith}
use Rattle.std.specs.List.Sorted.{IsStrictlySortedBy}
use Rattle.std.specs.Ordering.{ordering_reverse, ordering_then}
use Rattle.std.specs.declared.cmp.Ordering.{Ordering}
use Rattle.std.specs.declared.cmp.Ordering.TheVariants.{Less, Equal, Greater}
use Rattle.std.proofs.lemmas.Cmp.{nat_list_cmp_total}
use Rattle.std.proofs.lemmas.Map.Keys.{sorted_tail}
use Rattle.std.proofs.lemmas.Map.Views.{All-after_first}
use Rattle.std.proofs.lemmas.List.Elements.{All-head}
use Rattle.std.proofs.lemmas.Option.{none-some, same_Some}
use Rattle.ul_base.specs.Names.{name_cmp}
use Rattle.ul_base.specs.Nodes.{node_cmp, node_cmp-total}
use Rattle.ul_base.specs.declared.node.Node.{Node}
use Rattle.ul_problem.specs.Problems.{Increases, IncreasesFrom, NodeBefore}
use Rattle.ul_problem.specs.declared.problem.NodeFacts.{NodeFacts}
use Rattle.ul_requirement.specs.Truth.{base, with_extra}
use Rattle.ul_prepared.specs.Prepared.{PlannedBefore}
use Rattle.ul_prepared.specs.declared.prepared.Planned.{Planned}

reversed : (o : Ordering) → o ≡ ordering_reverse o → o ≡ Equal
reversed Less e = cc
reversed Equal e = refl
reversed Greater e = cc

-- a name is level with itself
pub name_level : (n : List ℕ) → name_cmp n n ≡ Equal
name_level n = reversed (name_cmp n n) (nat_list_cmp_total.antisymm n n)

node_level : (n : Node) → node_cmp n n ≡ Equal
node_level n = reversed (node_cmp n n) (node_cmp-total.antisymm n n)

-- no node comes before itself
pub not_itself : (n : Node) → node_cmp n n ≡ Less → ⊥
not_itself n e = let h = node_level n in cc

-- nodes are in order
pub planned_trans : (x y z : Planned) → PlannedBefore x y → PlannedBefore y z → PlannedBefore x z
planned_trans x y z = node_cmp-total.trans x.node y.node z.node

module _ {A : Type 0} (R : A → A → Type 0) (trans : (x y z : A) → R x y → R y z → R x z) where
  -- an element of a list that increases comes after each earlier one
  pub after : (x : A) (xs : List A) (k : ℕ) (y : A) → IncreasesFrom R x xs → slice_get xs k ≡ Some y → R x y
  after x [] k y h e = absurd (none-some y e)
  after x (z ∷ zs) zero y h e = subst (λ (u : A). R x u) (same_Some z y e) h.0
  after x (z ∷ zs) (suc k) y h e = trans x z y h.0 (after z zs k y h.1 e)

  -- the rest of a list that increases does so
  pub tail : (x : A) (xs : List A) → IncreasesFrom R x xs → Increases R xs
  tail x [] h = tt
  tail x (z ∷ zs) h = h.1

  -- what increases from an element on does so from an earlier one
  pub from_before : (x y : A) (xs : List A) → R x y → IncreasesFrom R y xs → IncreasesFrom R x xs
  from_before x y [] r h = tt
  from_before x y (z ∷ zs) r h = (trans x y z r h.0, h.1)

  -- elements of which none comes before the other stand at one place
  pub one_place : (xs : List A) (j k : ℕ) (x y : A) → Increases R xs → slice_get xs j ≡ Some x → slice_get xs k ≡ Some y → (R x y → ⊥) → (R y x → ⊥) → j ≡ k
  one_place [] j k x y h d e a b = absurd (none-some x d)
  one_place (z ∷ zs) zero zero x y h d e a b = refl
  one_place (z ∷ zs) zero (suc k) x y h d e a b = absurd (a (subst (λ (u : A). R u y) (same_Some z x d) (after z zs k y h e)))
  one_place (z ∷ zs) (suc j) zero x y h d e a b = absurd (b (subst (λ (u : A). R u x) (same_Some z y e) (after z zs j x h d)))
  one_place (z ∷ zs) (suc j) (suc k) x y h d e a b = ap suc (one_place zs j k x y (tail z zs h) d e a b)

  -- an element that doesn't come before another, nor is at its place, stands behind it
  pub places_rise : (xs : List A) (j k : ℕ) (x y : A) → Increases R xs → slice_get xs j ≡ Some x → slice_get xs k ≡ Some y → (R x x → ⊥) → R x y → (R y x → ⊥) → j < k
  places_rise [] j k x y h d e n r b = absurd (none-some x d)
  places_rise (z ∷ zs) zero zero x y h d e n r b = absurd (n (subst (λ (u : A). R x u) (same_Some y x (sym e ∙ d)) r))
  places_rise (z ∷ zs) zero (suc k) x y h d e n r b = omega arith
  places_rise (z ∷ zs) (suc j) zero x y h d e n r b = absurd (b (subst (λ (u : A). R u x) (same_Some z y e) (after z zs j x h d)))
  places_rise (z ∷ zs) (suc j) (suc k) x y h d e n r b = let i : j < k = places_rise zs j k x y (tail z zs h) d e n r b in omega (arith, i)

-- a node stands at one place
pub one_planned : (nodes : List Planned) (j k : ℕ) (x y : Planned) → Increases PlannedBefore nodes → slice_get nodes j ≡ Some x → slice_get nodes k ≡ Some y → x.node ≡ y.node → j ≡ k
one_planned nodes j k x y h d e same =
    one_place PlannedBefore planned_trans nodes j k x y h d e
    (λ r. not_itself y.node (subst (λ (n : Node). node_cmp n y.node ≡ Less) same r)) (λ r. not_itself y.node (subst (λ (n : Node). node_cmp y.node n ≡ Less) same r))

-- of two nodes one comes first
pub not_back : (a b : Node) → node_cmp a b ≡ Less → node_cmp b a ≡ Less → ⊥
not_back a b e d = not_itself a (node_cmp-total.trans a b a e d)

-- what is known of nodes is in order
pub facts_trans : (x y z : NodeFacts) → NodeBefore x y → NodeBefore y z → NodeBefore x z
facts_trans x y z = node_cmp-total.trans x.node y.node z.node

-- a node that comes before another stands before it
pub facts_rise : (fs : List NodeFacts) (j k : ℕ) (f g : NodeFacts) → Increases NodeBefore fs → slice_get fs j ≡ Some f → slice_get fs k ≡ Some g → node_cmp f.node g.node ≡ Less → j < k
facts_rise fs j k f g h d e r = places_rise NodeBefore facts_trans fs j k f g h d e (not_itself f.node) r (not_back f.node g.node r)

-- ---- what a project starts from increases

-- one node comes before another
abbrev pub IsNodeLess : Node → Node → Type 0
IsNodeLess a b = node_cmp a b ≡ Less

then_level : (a b : Ordering) → a ≡ Equal → ordering_then a b ≡ b
then_level Less b e = cc
then_level Equal b e = refl
then_level Greater b e = cc

base_first : (n x : List ℕ) → IsNodeLess (base n) (with_extra n x)
base_first n x = then_level (name_cmp n n) Less (name_level n)

extras_so : (n x y : List ℕ) → name_cmp x y ≡ Less → IsNodeLess (with_extra n x) (with_extra n y)
extras_so n x y e = then_level (name_cmp n n) (name_cmp x y) (name_level n) ∙ e

extras_from : (n x : List ℕ) (xs : List (List ℕ)) → IsStrictlySortedBy name_cmp (x ∷ xs) → IncreasesFrom IsNodeLess (with_extra n x) (map (with_extra n) xs)
extras_from n x [] h = tt
extras_from n x (y ∷ ys) h = (extras_so n x y (All-head (λ (z : List ℕ). name_cmp x z ≡ Less) y ys (All-after_first name_cmp x (y ∷ ys) h)), extras_from n y ys (sorted_tail name_cmp x (y ∷ ys) h))

-- the base of a name, then its extras in order
pub starts_increase : (n : List ℕ) (xs : List (List ℕ)) → IsStrictlySortedBy name_cmp xs → Increases IsNodeLess (base n ∷ map (with_extra n) xs)
starts_increase n [] h = tt
starts_increase n (x ∷ xs) h = (base_first n x, extras_from n x xs h)
