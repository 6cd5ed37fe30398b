use Rattle.std.proofs.Common.{◌≡◌, ◌++◌, true}
use Rattle.std.specs.List.{All}
use Rattle.ul_nodes.specs.Apply.{keys}
use Rattle.ul_nodes.specs.Keys.{keys_view, branches_of, branches_from, is_key_of}
use Rattle.ul_nodes.proofs.nodes.all_keys.Given as goal

abbrev pub invariant-loop-index : goal.invariant-loop-index
invariant-loop-index g l = record {
  keys : keys_view l.made.items ++ keys (branches_from l.index (branches_of (g.Kind.Nodes.tree l.node))) ≡ keys (branches_of (g.Kind.Nodes.tree l.node));
  kinds : All (λ k. is_key_of (g.Kind.Nodes.tree l.node) k ≡ true) l.made.items;
}
