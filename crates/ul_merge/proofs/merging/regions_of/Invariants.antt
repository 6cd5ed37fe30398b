use Rattle.std.proofs.Common.{◌≡◌, map, take}
use Rattle.ul_merge.specs.Views.{ForkLeaf}
use Rattle.ul_merge.proofs.merging.regions_of.Given as goal

abbrev pub invariant-loop-leaf : goal.invariant-loop-leaf
invariant-loop-leaf l = l.regions.items ≡ map (λ (x : ForkLeaf). x.region) (take l.leaf-index l.leaves)
