use Rattle.ul_marker.proofs.Joining.{grouping, order}
use Rattle.ul_marker.proofs.laws.joining_is_free.Goals as goal

pub returns : goal.returns
returns c = record { grouping = grouping; order = order }
