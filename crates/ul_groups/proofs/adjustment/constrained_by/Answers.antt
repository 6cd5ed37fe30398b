use Rattle.ul_groups.proofs.AdjustedLists.{no_extras}
use Rattle.ul_groups.proofs.adjustment.constrained_by.Goals as goal

pub invariant_of-result : goal.invariant_of-result
invariant_of-result c = record {
  extras = no_extras c.new.result.items c.new.ensures.items;
  marker = c.name.invariant.marker;
}
