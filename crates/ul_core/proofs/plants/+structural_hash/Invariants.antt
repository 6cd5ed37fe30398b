use Rattle.std.proofs.Common.{◌≡◌, map, take}
use Rattle.std.specs.List.{fold}
use Rattle.ul_core.specs.Hashes.{tree_hash, next_hash}
use Rattle.ul_core.specs.declared.trees.Tree.TheViews.{out-Tree}
use Rattle.ul_core.proofs.plants.+structural_hash.Given as goal

abbrev pub decreases-structural_hash : goal.decreases-structural_hash
decreases-structural_hash g l = goal.size-structural_hash g l

abbrev pub invariant-loop-part : goal.invariant-loop-part
invariant-loop-part g l = l.hash ≡ fold next_hash (g.L.Label.hash_of (out-Tree _ l.plant).label) (map (tree_hash g.L.Label.hash_of) (take l.part-index l.part-items))
