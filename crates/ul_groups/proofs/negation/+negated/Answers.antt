use Rattle.ul_groups.proofs.NegatedMarkers.{not_all, not_any}
use Rattle.ul_groups.proofs.negation.+negated.Goals as goal

pub negated-returns-in_ok-each_negated-in-All : goal.negated-returns-in_ok-each_negated-in-All
negated-returns-in_ok-each_negated-in-All t c =
    not_all c.args.marker.now c.in-All.parts c.in_ok-each_negated-in-All.field-0 c.deref-in-All.result.now c.deref-in-All.ensures.value
    c.in_ok-each_negated-in-All.ensures c.in-All.is

pub negated-returns-in_ok-each_negated-in-Any : goal.negated-returns-in_ok-each_negated-in-Any
negated-returns-in_ok-each_negated-in-Any t c =
    not_any c.args.marker.now c.in-Any.parts c.in_ok-each_negated-in-Any.field-0 c.deref-in-Any.result.now c.deref-in-Any.ensures.value
    c.in_ok-each_negated-in-Any.ensures c.in-Any.is
