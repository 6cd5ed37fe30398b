use Rattle.ul_region.specs.Numbers.{AreFirstNumbers, fields_in}
use Rattle.ul_region.proofs.numbers.many_numbers.Given as goal

abbrev pub invariant-loop-place : goal.invariant-loop-place
invariant-loop-place l = AreFirstNumbers (fields_in l.requirements) l.place l.numbers.items
