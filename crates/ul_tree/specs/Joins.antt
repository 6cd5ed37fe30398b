-- How two truths are joined, and the branches of a tree that is being made.
use Rattle.std.specs.Prelude.{ℕ, suc, ◌+◌, ◌<◌, List, Bool, not, ◌≡◌, if◌then◌else◌}
use Rattle.ul_nodes.specs.Plain.{Plain, truth, Branches, carries}
use Rattle.ul_nodes.specs.Apply.{size, apply, close, outs, part_at, both, either, same_bool}
use Rattle.ul_nodes.specs.Keys.{level_view, keys_of_both}
use Rattle.ul_tree.specs.Views.{tree_view}
use Rattle.ul_nodes.specs.declared.level.Key.{Key}
use Rattle.ul_nodes.specs.declared.level.Level.{Level}
use Rattle.ul_nodes.specs.Rows.{made_view}
use Rattle.ul_tree.specs.declared.join.AtOnce.{AtOnce}
use Rattle.ul_tree.specs.declared.join.AtOnce.TheVariants.{Truth, Side}
use Rattle.ul_tree.specs.declared.tree.Tree.{Tree}
use Rattle.ul_tree.specs.declared.join.Join.{Join}
use Rattle.ul_tree.specs.declared.join.Join.TheVariants.{Both, Either, NotFirst}

-- `and`, `or`, and `not` of the first
abbrev pub truth_of : Join → Bool → Bool → Bool
truth_of Both = both
truth_of Either = either
truth_of NotFirst = λ x y. not x

-- joined part by part; the number bounds how deep the joining goes, and any that is enough gives the same tree
abbrev pub IsJoined : Join → Plain → Plain → Plain → Type 0
IsJoined op a b t = (n : ℕ) → size a + size b < n → t ≡ apply (truth_of op) n a b

-- the tree that a join is at once
abbrev pub at_once_view : AtOnce → Plain
at_once_view (Truth b) = truth b
at_once_view (Side tree) = tree_view tree.now

-- the join of a truth and another tree: the other where the truth is neutral, else the truth
abbrev pub past_truth : Bool → Bool → Plain → Plain
past_truth neutral value other = if same_bool value neutral then other else truth value

-- branches of trees that were made
abbrev pub trees_made : List (Key × Tree) → Branches
trees_made = made_view tree_view

-- a tree is the node of a level with these branches, or the other part alone where there are none
abbrev pub IsClosed : List ℕ → Tree → List (Key × Tree) → Tree → Type 0
IsClosed level other made t = tree_view t ≡ close level (tree_view other) (trees_made made)

-- the branches of the joined tree of two at a level, beside its other part; the number bounds how deep the joining goes
abbrev pub AreJoined : Join → Level → Tree → Tree → Tree → List (Key × Tree) → Type 0
AreJoined op level left right other made =
    let a = tree_view left in
    let b = tree_view right in
    let l = level_view level in
    (n : ℕ) → size a + size b < suc n → trees_made made ≡ outs (λ v. apply (truth_of op) n (part_at l v a) (part_at l v b)) (carries l) (keys_of_both level a b) (tree_view other)
