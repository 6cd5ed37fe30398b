use Rattle.std.proofs.Common.{take}
use Rattle.std.specs.Prelude.{All}
use Rattle.ul_prepared.specs.Aims.{needs_on}
use Rattle.ul_prepared.specs.Permitted.{IsSetOf}
use Rattle.ul_prepared.specs.Prepared.{AreAims}
use Rattle.ul_prepared.proofs.aims.aims_at.Given as goal

abbrev pub invariant-loop-target : goal.invariant-loop-target
invariant-loop-target l = record {
  sets : All (IsSetOf l.names) l.sets.list.items;
  aims : AreAims l.names l.nodes l.row.items (needs_on l.specifiers (take l.target-index l.targets));
}
