use Rattle.std.proofs.Common.{◌≡◌, map, take}
use Rattle.ul_requirement.specs.Fields.{RequirementFields}
use Rattle.ul_region.specs.Numbers.{fields_in, first_on}
use Rattle.ul_region.proofs.numbers.few_numbers.Given as goal

abbrev pub invariant-loop-requirement : goal.invariant-loop-requirement
invariant-loop-requirement l = l.numbers.items ≡ map (λ (x : RequirementFields). first_on x.name (fields_in l.requirements)) (take l.requirement-index (fields_in l.requirements))
