use Rattle.std.proofs.Common.{◌≡◌, drop}
use Rattle.ul_commands.specs.RootExtras.{root_is_among}
use Rattle.ul_commands.proofs.root_extras.root_is_among.Given as goal

abbrev pub invariant-loop-block : goal.invariant-loop-block
invariant-loop-block l = root_is_among l.names.keys l.root (drop l.block-index l.packages) ≡ root_is_among l.names.keys l.root l.packages
