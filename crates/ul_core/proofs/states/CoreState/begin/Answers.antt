use Rattle.std.proofs.Common.{ap, arith}
use Rattle.ul_core.specs.Core.{core_of}
use Rattle.ul_core.proofs.Logs.{first_more, length_first}
use Rattle.ul_core.proofs.states.CoreState.begin.Goals as goal

pub loop-init : goal.loop-init
loop-init g c = ap (λ logs. core_of logs 0) c.new-logs.ensures.items

pub loop-preserved : goal.loop-preserved
loop-preserved g c = first_more _ _ _ _ c.loop.invariant c.new.ensures.items c.in_ok-push.ensures.items

pub invariant_of-result : goal.invariant_of-result
invariant_of-result g c = let n = length_first _ _ c.loop.invariant in (omega arith, omega arith)
