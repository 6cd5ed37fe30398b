use Rattle.std.proofs.Common.{◌≡◌, take, false, bytes_eq}
use Rattle.std.specs.Prelude.{All}
use Rattle.ul_requirement.specs.Fields.{RequirementFields}
use Rattle.ul_region.specs.Numbers.{fields_in}
use Rattle.ul_region.proofs.numbers.first_on.Given as goal

abbrev pub invariant-loop-place : goal.invariant-loop-place
invariant-loop-place l = All (λ (x : RequirementFields). bytes_eq x.name l.name ≡ false) (take l.place (fields_in l.requirements))
