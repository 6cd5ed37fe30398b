use Rattle.std.proofs.Common.{false}
use Rattle.std.proofs.lemmas.List.{get_or_past}
use Rattle.ul_ranges.proofs.FlagLaws.{same_sets}
use Rattle.ul_ranges.proofs.laws.sets.Goals as goal

pub returns : goal.returns
returns c = record { within = λ k s past. get_or_past s k false past; equal = same_sets }
