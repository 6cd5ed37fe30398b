use Rattle.ul_ranges.proofs.FlagLaws.{length-front, front_members}
use Rattle.ul_ranges.proofs.laws.fronts.Goals as goal

pub returns : goal.returns
returns c = record { size = length-front; members = front_members }
