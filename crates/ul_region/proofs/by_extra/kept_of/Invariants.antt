use Rattle.std.proofs.Common.{◌≡◌, take}
use Rattle.ul_region.specs.Numbers.{fields_in}
use Rattle.ul_region.specs.Rows.{asked_at}
use Rattle.ul_region.proofs.by_extra.kept_of.Given as goal

abbrev pub invariant-loop-requirement : goal.invariant-loop-requirement
invariant-loop-requirement l = fields_in l.kept.items ≡ asked_at l.node (take l.requirement-index l.requirements)
