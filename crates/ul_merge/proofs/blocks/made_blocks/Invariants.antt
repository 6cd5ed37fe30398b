use Rattle.std.proofs.Common.{take}
use Rattle.ul_interner.specs.Known.{Knows}
use Rattle.ul_merge.specs.Blocks.{MakesBlock, catalog_in, leaves_in, supported_in}
use Rattle.ul_merge.specs.Made.{AreMade}
use Rattle.ul_merge.specs.Over.{MadeOrOver}
use Rattle.ul_merge.proofs.blocks.made_blocks.Given as goal

abbrev pub invariant-loop-group : goal.invariant-loop-group
invariant-loop-group g l = record {
  knows : Knows l.initial.algebra l.algebra;
  made : MadeOrOver (AreMade (MakesBlock (catalog_in l.sources) (leaves_in l.sources) (supported_in l.sources)) (take l.group-index l.groups)) l.blocks;
}
