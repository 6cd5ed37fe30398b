use Rattle.ul_reach.specs.Reaching.{AreNowhere}
use Rattle.ul_reach.proofs.settling.no_reaches.Given as goal

abbrev pub invariant-loop : goal.invariant-loop
invariant-loop g l = AreNowhere l.algebra l.counter l.regions.items
