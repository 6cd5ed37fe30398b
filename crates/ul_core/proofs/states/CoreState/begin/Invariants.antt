use Rattle.std.proofs.Common.{◌≡◌}
use Rattle.ul_core.specs.Core.{first_core, core_of}
use Rattle.ul_core.proofs.states.CoreState.begin.Given as goal

abbrev pub invariant-loop : goal.invariant-loop
invariant-loop g l = core_of l.logs.items 0 ≡ first_core l.counter
