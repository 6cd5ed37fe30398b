-- What entries are gathered by.
use Rattle.std.specs.Prelude.{ℕ, List}
use Rattle.std.specs.Option.{option_cmp}
use Rattle.std.specs.Ordering.{on, then_cmp}
use Rattle.std.specs.declared.cmp.Ordering.{Ordering}
use Rattle.ul_base.specs.Names.{name_cmp}
use Rattle.ul_version.specs.Order.{version_cmp}
use Rattle.ul_lock.specs.Walk.{Pick}
use Rattle.ul_sound.specs.Merged.{Pair}
use Rattle.ul_merge.specs.declared.keys.ExtraKey.{ExtraKey}
use Rattle.ul_merge.specs.declared.keys.PairKey.{PairKey}
use Rattle.ul_merge.specs.declared.keys.PickKey.{PickKey}

-- nodes at versions by name and version, the base before the extras
abbrev pub pick_cmp : PickKey → PickKey → Ordering
pick_cmp = then_cmp (on (λ k. k.node.now.name) name_cmp)
    (then_cmp (on (λ k. k.version.now) version_cmp) (on (λ k. k.node.now.extra) (option_cmp name_cmp)))

-- packages by name and version
abbrev pub pair_cmp : PairKey → PairKey → Ordering
pair_cmp = then_cmp (on (λ k. k.name.now) name_cmp) (on (λ k. k.version.now) version_cmp)

-- extras by name
abbrev pub extra_cmp : ExtraKey → ExtraKey → Ordering
extra_cmp = on (λ k. k.name.now) name_cmp

-- the node and its version
abbrev pub pick_of : PickKey → Pick
pick_of k = (k.node.now, k.version.now)

-- the name and the version
abbrev pub pair_of : PairKey → Pair
pair_of k = (k.name.now, k.version.now)
