use Rattle.std.proofs.Common.{◌≡◌, map, ◌∷◌, take}
use Rattle.ul_requirement.specs.Truth.{base, with_extra}
use Rattle.ul_requirement.proofs.requirement.Requirement.targets.Given as goal

abbrev pub invariant-loop-extra : goal.invariant-loop-extra
invariant-loop-extra l = l.nodes.items ≡ base l.self.name ∷ map (with_extra l.self.name) (take l.extra-index l.self.extras)
