use Rattle.std.proofs.Common.{◌≡◌, drop, ◌+◌, ◌*◌, ◌<◌, ℕ, suc, true}
use Rattle.std.specs.List.{All}
use Rattle.ul_nodes.specs.Reduced.{IsReduced}
use Rattle.ul_nodes.specs.Apply.{size, outs, apply, part_at}
use Rattle.ul_tree.specs.Views.{tree_view}
use Rattle.ul_nodes.specs.Keys.{level_view, keys_view, has_kind, then_branches}
use Rattle.ul_nodes.specs.Rows.{made_view, stands}
use Rattle.ul_tree.specs.Joins.{truth_of}
use Rattle.ul_tree.proofs.join.+joined.Given as goal

abbrev pub decreases-joined_within : goal.decreases-joined_within
decreases-joined_within l = 3 * (size (tree_view l.left.now) + size (tree_view l.right.now)) + 2

abbrev pub decreases-joined_parts : goal.decreases-joined_parts
decreases-joined_parts l = 3 * (size (tree_view l.left.now) + size (tree_view l.right.now)) + 1

abbrev pub decreases-joined_branches : goal.decreases-joined_branches
decreases-joined_branches l = 3 * (size (tree_view l.left.now) + size (tree_view l.right.now))

abbrev pub invariant-joined_branches-loop-key : goal.invariant-joined_branches-loop-key
invariant-joined_branches-loop-key l = record {
  made : (n : ℕ) → size (tree_view l.left) + size (tree_view l.right) < suc n
      → then_branches (made_view tree_view l.made.items) (outs (λ v. apply (truth_of l.operation) n (part_at (level_view l.level) v (tree_view l.left)) (part_at (level_view l.level) v (tree_view l.right))) l.carried (keys_view (drop l.key-index l.key-items)) (stands l.carried (made_view tree_view l.made.items) (tree_view l.other)))
      ≡ outs (λ v. apply (truth_of l.operation) n (part_at (level_view l.level) v (tree_view l.left)) (part_at (level_view l.level) v (tree_view l.right))) l.carried (keys_view l.key-items) (tree_view l.other);
  stands_reduced : IsReduced (stands l.carried (made_view tree_view l.made.items) (tree_view l.other));
  kinds : All (λ e. has_kind (level_view l.level) e.0 ≡ true) l.made.items;
}
