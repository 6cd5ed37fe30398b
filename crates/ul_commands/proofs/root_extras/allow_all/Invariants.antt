use Rattle.std.proofs.Common.{◌≡◌, bytes_eq, drop}
use Rattle.indexmap.specs.IndexSet.{insert_all}
use Rattle.ul_commands.proofs.root_extras.allow_all.Given as goal

abbrev pub invariant-loop-extra : goal.invariant-loop-extra
invariant-loop-extra l = insert_all bytes_eq l.names.keys (drop l.extra-index l.extras) ≡ insert_all bytes_eq l.fn.names.keys l.extras
