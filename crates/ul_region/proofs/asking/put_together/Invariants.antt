use Rattle.std.proofs.Common.{◌≡◌, map, take}
use Rattle.ul_region.specs.Numbers.{fields_in}
use Rattle.ul_region.specs.Rows.{next_in, number_in, requirement_of, truth_in}
use Rattle.ul_region.proofs.asking.put_together.Given as goal

abbrev pub invariant-loop-place : goal.invariant-loop-place
invariant-loop-place l = record {
  same : map requirement_of l.asked.items ≡ take l.place (fields_in l.requirements);
  truths : map truth_in l.asked.items ≡ take l.place l.truths;
  numbers : map number_in l.asked.items ≡ take l.place l.numbers;
  nexts : map next_in l.asked.items ≡ take l.place l.nexts;
}
