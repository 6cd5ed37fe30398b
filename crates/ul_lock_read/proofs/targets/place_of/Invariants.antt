use Rattle.std.proofs.Common.{◌-◌, []}
use Rattle.ul_lock_read.specs.Automaton.{plain_block}
use Rattle.ul_lock_read.proofs.Halving.{IsHalved}
use Rattle.ul_lock_read.proofs.targets.place_of.Given as goal

abbrev pub invariant-loop-low : goal.invariant-loop-low
invariant-loop-low l = IsHalved l.packages (plain_block l.name l.version [] [] []) l.low l.high

abbrev pub decreases-loop-low : goal.decreases-loop-low
decreases-loop-low l = l.high - l.low
