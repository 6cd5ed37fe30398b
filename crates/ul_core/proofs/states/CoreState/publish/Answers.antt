use Rattle.std.proofs.Common.{arith, refl, length-set}
use Rattle.ul_core.proofs.Logs.{log_longer, log_same}
use Rattle.ul_core.proofs.states.CoreState.publish.Goals as goal

pub returns-in-Err-push-clause-same : goal.returns-in-Err-push-clause-same
returns-in-Err-push-clause-same g c = log_same _ _ _ _ c.push.new.self _ c.self.view_is c.index_mut.ensures.value c.in-Err-push.ensures.items

pub returns-clause-taken : goal.returns-clause-taken
returns-clause-taken g c =
    (c.in_default.ensures.may, refl, log_longer _ _ _ _ _ _ _ c.self.view_is c.in_default.ensures.below c.index_mut.ensures.value c.in_default-push.ensures.items)

pub returns-in-Err-clause-refused : goal.returns-in-Err-clause-refused
returns-in-Err-clause-refused g c = c.in-Err.ensures.first

pub returns-in-Err-clause-same : goal.returns-in-Err-clause-same
returns-in-Err-clause-same g c = refl

pub returns-in-Err-push-clause-refused : goal.returns-in-Err-push-clause-refused
returns-in-Err-push-clause-refused g c = c.in_default.ensures.may

pub invariant_of-self : goal.invariant_of-self
invariant_of-self g c = let same = length-set c.self.inside.logs.items c.args.shard c.push.new.self in (omega (arith, same, c.self.invariant.0), omega (arith, same, c.self.invariant.1))

pub invariant_of-self-2 : goal.invariant_of-self-2
invariant_of-self-2 g c = let same = length-set c.self.inside.logs.items c.args.shard c.push.new.self in (omega (arith, same, c.self.invariant.0), omega (arith, same, c.self.invariant.1))
