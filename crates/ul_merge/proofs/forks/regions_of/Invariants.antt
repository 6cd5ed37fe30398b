use Rattle.std.proofs.Common.{map, take}
use Rattle.ul_interner.specs.Known.{Knows}
use Rattle.ul_algebra.specs.Spelled.{tree_of}
use Rattle.ul_sound.specs.Merged.{AreSimplified}
use Rattle.ul_lock_write.specs.Markers.{fork_marker}
use Rattle.ul_merge.specs.Over.{ItemsOrOver}
use Rattle.ul_merge.specs.Views.{leaf_of}
use Rattle.ul_merge.proofs.forks.regions_of.Given as goal

abbrev pub invariant-loop-leaf : goal.invariant-loop-leaf
invariant-loop-leaf g l = record {
  knows : Knows l.initial.algebra l.algebra;
  forks : ItemsOrOver fork_marker (AreSimplified (tree_of l.supported) (map leaf_of (take l.leaf-index l.leaves))) l.regions;
}
