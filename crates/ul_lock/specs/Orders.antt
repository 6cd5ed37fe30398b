-- The orders of a lock's lists.
use Rattle.std.specs.Prelude.{Bool}
use Rattle.std.specs.Ordering.{is_lt, on, then_cmp}
use Rattle.std.specs.Option.{option_cmp}
use Rattle.std.specs.declared.cmp.Ordering.{Ordering}
use Rattle.ul_base.specs.Names.{name_cmp}
use Rattle.ul_version.specs.Order.{version_cmp, numbers_cmp}
use Rattle.ul_requirement.specs.Fields.{FileFields}
use Rattle.ul_lock.specs.declared.parts.Edge.{Edge}
use Rattle.ul_lock.specs.declared.parts.Extra.{Extra}
use Rattle.ul_lock.specs.declared.parts.Locked.{Locked}

-- packages by name and version
abbrev pub package_cmp : Locked → Locked → Ordering
package_cmp = then_cmp (on (λ p. p.name) name_cmp) (on (λ p. p.version) version_cmp)

-- edges by the target's name and version, the base before the extras
abbrev pub edge_cmp : Edge → Edge → Ordering
edge_cmp = then_cmp (on (λ e. e.target.name) name_cmp)
    (then_cmp (on (λ e. e.version) version_cmp) (on (λ e. e.target.extra) (option_cmp name_cmp)))

-- files by the bytes of their names
abbrev pub file_cmp : FileFields → FileFields → Ordering
file_cmp = on (λ f. f.file) numbers_cmp

-- extras by name
abbrev pub extra_cmp : Extra → Extra → Ordering
extra_cmp = on (λ x. x.name) name_cmp

-- the one edge stands above the other
abbrev pub edge_less : Edge → Edge → Bool
edge_less a b = is_lt (edge_cmp a b)

-- the one file does
abbrev pub file_less : FileFields → FileFields → Bool
file_less a b = is_lt (file_cmp a b)

-- the one extra does
abbrev pub extra_less : Extra → Extra → Bool
extra_less a b = is_lt (extra_cmp a b)

-- the one package does
abbrev pub block_less : Locked → Locked → Bool
block_less a b = is_lt (package_cmp a b)
