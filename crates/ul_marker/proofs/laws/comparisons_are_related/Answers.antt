use Rattle.ul_marker.proofs.Related.{mirrored_is_same, negated_relations, not_in_is_negation}
use Rattle.ul_marker.proofs.laws.comparisons_are_related.Goals as goal

pub returns : goal.returns
returns c = record { mirrored = mirrored_is_same; negated = negated_relations; not_in = not_in_is_negation }
