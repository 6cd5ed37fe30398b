-- What holds of trees joined part by part: each step of the joining, and when a side or a truth is the answer at once.
use Rattle.std.specs.Prelude.{ℕ, ◌+◌, ◌<◌, List, Bool, true, false, not, Some, ◌≡◌, ◌↔◌}
use Rattle.ul_comparison.specs.Worlds.{WorldFields, IsWorld}
use Rattle.ul_nodes.specs.Plain.{Plain, truth}
use Rattle.ul_nodes.specs.Levels.{IsExtra}
use Rattle.ul_nodes.specs.Reduced.{IsReduced}
use Rattle.ul_tree.specs.Values.{tree_holds}
use Rattle.ul_nodes.specs.Apply.{apply, built, both, first_of, keys, key_union, branches_at, rest_at, part_at, size}
use Rattle.ul_tree.specs.Laws.{joined_by, not_of}

-- t has the joined truth of a and b, at every world and extra
abbrev pub HasJoinedTruth : (Bool → Bool → Bool) → Plain → Plain → Plain → Type 0
HasJoinedTruth op a b t = (w : WorldFields) (x : List ℕ) → IsWorld w → IsExtra x → tree_holds t w x ≡ op (tree_holds a w x) (tree_holds b w x)

-- t is reduced, and has the joined truth of a and b
pub record JoinsTo (op : Bool → Bool → Bool) (a b t : Plain) : Type 0 where
  pub reduced : IsReduced t
  pub truth : HasJoinedTruth op a b t

-- an operation on two nodes is the operation on their parts, which are smaller
pub record ApplySteps : Type 0 where
  pub at_truths : (op : Bool → Bool → Bool) (x y : Bool) → joined_by op (truth x) (truth y) ≡ truth (op x y)
  pub at_level : (op : Bool → Bool → Bool) (l : List ℕ) (a b : Plain) → IsReduced a → IsReduced b → Some l ≡ first_of a b
      → joined_by op a b ≡ built l (λ v. joined_by op (part_at l v a) (part_at l v b)) (joined_by op (rest_at l a) (rest_at l b)) (key_union (keys (branches_at l a)) (keys (branches_at l b)))
  pub rest_smaller : (l : List ℕ) (a b : Plain) → Some l ≡ first_of a b → size (rest_at l a) + size (rest_at l b) < size a + size b
  pub part_smaller : (l v : List ℕ) (a b : Plain) → Some l ≡ first_of a b → size (part_at l v a) + size (part_at l v b) < size a + size b
  -- more turns than enough give the same tree
  pub enough : (op : Bool → Bool → Bool) (n : ℕ) (a b : Plain) → IsReduced a → IsReduced b → size a + size b < n → apply op n a b ≡ joined_by op a b
  -- a reduced tree of the joined truth is the joined tree
  pub one_result : (op : Bool → Bool → Bool) (a b t : Plain) → IsReduced a → IsReduced b → IsReduced t → HasJoinedTruth op a b t → t ≡ joined_by op a b

-- when the joined tree is known at once
pub record JoinShortcuts : Type 0 where
  -- a truth that alone settles the joined truth
  pub absorbing_first : (op : Bool → Bool → Bool) (x z : Bool) (b : Plain) → IsReduced b → ((y : Bool) → op x y ≡ z) → joined_by op (truth x) b ≡ truth z
  pub absorbing_second : (op : Bool → Bool → Bool) (x z : Bool) (a : Plain) → IsReduced a → ((y : Bool) → op y x ≡ z) → joined_by op a (truth x) ≡ truth z
  -- a truth that leaves the joined truth to the other side
  pub neutral_first : (op : Bool → Bool → Bool) (x : Bool) (b : Plain) → IsReduced b → ((y : Bool) → op x y ≡ y) → joined_by op (truth x) b ≡ b
  pub neutral_second : (op : Bool → Bool → Bool) (x : Bool) (a : Plain) → IsReduced a → ((y : Bool) → op y x ≡ y) → joined_by op a (truth x) ≡ a
  pub equal_sides : (op : Bool → Bool → Bool) (a : Plain) → IsReduced a → ((y : Bool) → op y y ≡ y) → joined_by op a a ≡ a
  pub double_negation : (a : Plain) → IsReduced a → not_of (not_of a) ≡ a

-- both of a and the negation of b
abbrev pub first_alone : Bool → Bool → Bool
first_alone x y = both x (not y)

-- a implies b, at every world and extra
abbrev pub Implies : Plain → Plain → Type 0
Implies a b = (w : WorldFields) (x : List ℕ) → IsWorld w → IsExtra x → tree_holds a w x ≡ true → tree_holds b w x ≡ true

-- a implies b exactly where a without b is false
abbrev pub ImpliesByJoin : Type 0
ImpliesByJoin = (a b : Plain) → IsReduced a → IsReduced b → (joined_by first_alone a b ≡ truth false) ↔ Implies a b
