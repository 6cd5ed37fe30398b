use Rattle.std.proofs.Common.{◌∙◌}
use Rattle.ul_commands.specs.RootExtras.{asked_by_package}
use Rattle.ul_commands.proofs.RootExtras.{next_in}
use Rattle.ul_commands.proofs.root_extras.allow_packages.Goals as goal

pub loop-block-preserved : goal.loop-block-preserved
loop-block-preserved c =
    next_in (asked_by_package c.args.root.now) c.args.packages.now c.loop-block.block-index c.block-item.result
    c.allow_package.new.names.keys c.loop-block.names.keys
    c.loop-block-test.true c.block-item.is c.in_ok-allow_package.ensures
    ∙ c.loop-block.invariant
