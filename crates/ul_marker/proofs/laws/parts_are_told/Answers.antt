use Rattle.ul_marker.proofs.PartProofs.{names_are_literals, truth_is_plain}
use Rattle.ul_marker.proofs.laws.parts_are_told.Goals as goal

pub returns : goal.returns
returns c = record { plain = truth_is_plain; names = names_are_literals }
