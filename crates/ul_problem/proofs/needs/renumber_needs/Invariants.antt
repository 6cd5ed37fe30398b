use Rattle.std.proofs.Common.{◌≡◌, ◌++◌, drop, map, take}
use Rattle.ul_problem.specs.HeldNeeds.{need_renumbered}
use Rattle.ul_problem.proofs.needs.renumber_needs.Given as goal

abbrev pub invariant-loop-need : goal.invariant-loop-need
invariant-loop-need l = take l.need-index l.needs ++ map (need_renumbered l.numbers) (drop l.need-index l.needs) ≡ map (need_renumbered l.numbers) l.initial.needs
