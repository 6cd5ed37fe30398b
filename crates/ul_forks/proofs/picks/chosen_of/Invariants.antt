use Rattle.std.proofs.Common.{take}
use Rattle.ul_forks.specs.Picks.{IsTaken, OneForOne}
use Rattle.ul_forks.proofs.picks.chosen_of.Given as goal

abbrev pub invariant-loop-pick : goal.invariant-loop-pick
invariant-loop-pick l = OneForOne (IsTaken l.prepared l.placed.problem) (take l.pick-index l.picks) l.chosen.items
