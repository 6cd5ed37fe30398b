use Rattle.std.proofs.Common.{◌≡◌, ℕ, ◌<◌, map, take}
use Rattle.std.specs.Prelude.{Some}
use Rattle.std.specs.Bool.{OnTrue, OnFalse}
use Rattle.std.specs.List.{fold, slice_get}
use Rattle.ul_core.specs.Core.{Stands}
use Rattle.ul_core.specs.Hashes.{next_hash, tree_hash}
use Rattle.ul_core.specs.Trees.{Has}
use Rattle.ul_core.specs.declared.trees.Tree.{Tree}
use Rattle.ul_core.specs.declared.trees.Tree.TheViews.{out-Tree}
use Rattle.ul_core.proofs.states.CoreState.look.Given as goal

abbrev pub invariant-loop-part : goal.invariant-loop-part
invariant-loop-part g l = record {
  hash : l.hash ≡ fold next_hash (g.L.Label.hash_of (out-Tree _ l.plant).label) (map (tree_hash g.L.Label.hash_of) (take l.part-index l.part-items));
  all : OnTrue l.all_stand ((i : ℕ) (t : Tree _) → i < l.part-index → slice_get l.part-items i ≡ Some t → Stands g.L.Label.hash_of l.self t);
  some : OnFalse l.all_stand ((t : Tree _) × Has l.part-items t × ¬ Stands g.L.Label.hash_of l.self t);
}
