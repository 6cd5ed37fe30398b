use Rattle.std.proofs.Common.{◌≡◌, bytes_eq, drop, flat_map}
use Rattle.indexmap.specs.IndexSet.{insert_all}
use Rattle.ul_commands.specs.RootExtras.{asked_by_package}
use Rattle.ul_commands.proofs.root_extras.allow_packages.Given as goal

abbrev pub invariant-loop-block : goal.invariant-loop-block
invariant-loop-block l =
    insert_all bytes_eq l.names.keys (flat_map (asked_by_package l.root) (drop l.block-index l.packages))
    ≡ insert_all bytes_eq l.fn.names.keys (flat_map (asked_by_package l.root) l.packages)
