use Rattle.std.proofs.Common.{◌≡◌, bytes_eq, drop, flat_map}
use Rattle.indexmap.specs.IndexSet.{insert_all}
use Rattle.ul_lock.specs.declared.parts.Extra.{Extra}
use Rattle.ul_commands.specs.RootExtras.{asked_by_edges}
use Rattle.ul_commands.proofs.root_extras.allow_extras.Given as goal

abbrev pub invariant-loop-extra : goal.invariant-loop-extra
invariant-loop-extra l =
    insert_all bytes_eq l.names.keys (flat_map (λ (x : Extra). asked_by_edges l.root x.edges) (drop l.extra-index l.extras))
    ≡ insert_all bytes_eq l.fn.names.keys (flat_map (λ (x : Extra). asked_by_edges l.root x.edges) l.extras)
