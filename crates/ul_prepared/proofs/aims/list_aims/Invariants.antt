use Rattle.std.proofs.Common.{take}
use Rattle.std.specs.Prelude.{All}
use Rattle.std.specs.List.{AllZip}
use Rattle.ul_prepared.specs.Permitted.{IsSetOf}
use Rattle.ul_prepared.specs.Prepared.{AreRowAims}
use Rattle.ul_prepared.proofs.aims.list_aims.Given as goal

abbrev pub invariant-loop-asked : goal.invariant-loop-asked
invariant-loop-asked l = record {
  sets : All (IsSetOf l.names) l.sets.list.items;
  aims : AllZip (AreRowAims l.names l.nodes) l.list.items (take l.asked-index l.lists);
}
