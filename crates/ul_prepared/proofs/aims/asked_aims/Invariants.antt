use Rattle.std.proofs.Common.{take}
use Rattle.std.specs.Prelude.{All}
use Rattle.ul_prepared.specs.Permitted.{IsSetOf}
use Rattle.ul_prepared.specs.Prepared.{AreRowAims}
use Rattle.ul_prepared.proofs.aims.asked_aims.Given as goal

abbrev pub invariant-loop-one : goal.invariant-loop-one
invariant-loop-one l = record {
  sets : All (IsSetOf l.names) l.sets.list.items;
  aims : AreRowAims l.names l.nodes l.rows.items (take l.one-index l.asked);
}
