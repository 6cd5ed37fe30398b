use Rattle.std.proofs.Common.{◌≡◌, take}
use Rattle.ul_problem.proofs.needs.own_list.Given as goal

abbrev pub invariant-loop-need : goal.invariant-loop-need
invariant-loop-need l = l.list.items ≡ take l.need-index l.needs
