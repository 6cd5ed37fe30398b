use Rattle.std.proofs.Common.{◌≡◌, drop}
use Rattle.std.specs.List.{list_any}
use Rattle.std.specs.Ordering.{is_eq}
use Rattle.ul_version.specs.Order.{version_cmp}
use Rattle.ul_prepared.proofs.names.is_one_of.Given as goal

abbrev pub invariant-loop-old : goal.invariant-loop-old
invariant-loop-old l =
    list_any (λ k. is_eq (version_cmp k.now l.version)) l.kept ≡ list_any (λ k. is_eq (version_cmp k.now l.version)) (drop l.old-index l.kept)
