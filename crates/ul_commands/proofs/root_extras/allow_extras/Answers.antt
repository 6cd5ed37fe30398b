use Rattle.std.proofs.Common.{◌∙◌}
use Rattle.ul_lock.specs.declared.parts.Extra.{Extra}
use Rattle.ul_commands.specs.RootExtras.{asked_by_edges}
use Rattle.ul_commands.proofs.RootExtras.{next_in}
use Rattle.ul_commands.proofs.root_extras.allow_extras.Goals as goal

pub loop-extra-preserved : goal.loop-extra-preserved
loop-extra-preserved c =
    next_in (λ (x : Extra). asked_by_edges c.args.root.now x.edges) c.args.extras.now c.loop-extra.extra-index c.extra-item.result
    c.allow_extra.new.names.keys c.loop-extra.names.keys
    c.loop-extra-test.true c.extra-item.is c.in_ok-allow_extra.ensures
    ∙ c.loop-extra.invariant
