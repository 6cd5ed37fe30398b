use Rattle.std.proofs.Common.{◌∙◌, ap}
use Rattle.ul_comparison.specs.Machines.{world_of}
use Rattle.ul_filter.proofs.FaultFacts.{fault_handed_on}
use Rattle.ul_filter.proofs.texts.environment.Goals as goal

pub returns-in_err-text : goal.returns-in_err-text
returns-in_err-text c = fault_handed_on c.args.lock.now _ _ c.args.extras.now c.in_err-text.field-0.0 c.from_residual-in_err-text.result
    (c.in_ok-world.ensures ∙ ap (λ ts. world_of c.args.machine.now ts) c.in_ok-atoms.ensures) c.in_err-text.ensures c.from_residual-in_err-text.ensures.1
