use Rattle.ul_ranges.proofs.FlagLaws.{has-both, has-either, has-less, length-both, length-either, length-less}
use Rattle.ul_ranges.proofs.laws.operations.Goals as goal

pub returns : goal.returns
returns c = record {
  both = has-both;
  either = has-either;
  less = has-less;
  both_size = length-both;
  either_size = length-either;
  less_size = length-less;
}
