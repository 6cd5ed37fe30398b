use Rattle.std.proofs.Common.{◌≡◌, drop}
use Rattle.ul_commands.specs.RootExtras.{are_among}
use Rattle.ul_commands.proofs.root_extras.are_among.Given as goal

abbrev pub invariant-loop-extra : goal.invariant-loop-extra
invariant-loop-extra l = are_among l.names.keys (drop l.extra-index l.extras) ≡ are_among l.names.keys l.extras
