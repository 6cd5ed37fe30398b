use Rattle.std.proofs.Common.{◌≡◌, ℕ, List, ◌+◌, ◌-◌, ◌++◌, ◌≤◌, length, drop, true}
use Rattle.std.specs.List.{All}
use Rattle.ul_nodes.specs.Apply.{key_union}
use Rattle.ul_nodes.specs.Keys.{keys_view, has_kind}
use Rattle.ul_nodes.proofs.nodes.merged_keys.Given as goal

abbrev pub invariant-loop-i : goal.invariant-loop-i
invariant-loop-i l = record {
  first : l.i ≤ length l.left;
  second : l.j ≤ length l.right;
  keys : keys_view l.made.items ++ key_union (keys_view (drop l.i l.left)) (keys_view (drop l.j l.right)) ≡ key_union (keys_view l.left) (keys_view l.right);
  kinds : (m : List ℕ) → All (λ k. has_kind m k ≡ true) l.left → All (λ k. has_kind m k ≡ true) l.right → All (λ k. has_kind m k ≡ true) l.made.items;
}

abbrev pub decreases-loop-i : goal.decreases-loop-i
decreases-loop-i l = (length l.left - l.i) + (length l.right - l.j)
