use Rattle.std.proofs.Common.{take}
use Rattle.ul_interner.specs.Known.{Knows}
use Rattle.ul_merge.specs.Blocks.{MakesExtra, catalog_in, leaves_in, supported_in}
use Rattle.ul_merge.specs.Keys.{pair_of}
use Rattle.ul_lock_write.specs.Markers.{extra_markers}
use Rattle.ul_merge.specs.Made.{AreMade}
use Rattle.ul_merge.specs.Over.{ItemsOrOver}
use Rattle.ul_merge.proofs.blocks.made_extras.Given as goal

abbrev pub invariant-loop-group : goal.invariant-loop-group
invariant-loop-group g l = record {
  knows : Knows l.initial.algebra l.algebra;
  made : ItemsOrOver extra_markers (AreMade (MakesExtra (catalog_in l.sources) (leaves_in l.sources) (supported_in l.sources) (pair_of l.pair)) (take l.group-index l.groups)) l.extras;
}
