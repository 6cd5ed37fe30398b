use Rattle.ul_ranges.proofs.FlagLaws.{length-set_of, set_members}
use Rattle.ul_ranges.proofs.laws.listed.Goals as goal

pub returns : goal.returns
returns c = record { size = length-set_of; members = set_members }
