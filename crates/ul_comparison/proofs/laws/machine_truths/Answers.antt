use Rattle.std.proofs.Common.{[]}
use Rattle.ul_comparison.proofs.Parts.{part_is_between}
use Rattle.ul_comparison.proofs.Placed.{no_extras, truths_are, truths_rise}
use Rattle.ul_comparison.proofs.laws.machine_truths.Goals as goal

pub returns : goal.returns
returns c = record {
  truths = λ m atoms a. truths_are m [] atoms a;
  no_extras = no_extras;
  increase = λ m atoms. truths_rise m [] atoms tt;
  part = part_is_between;
}
