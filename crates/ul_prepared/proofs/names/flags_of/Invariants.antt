use Rattle.std.proofs.Common.{◌≡◌, map, take}
use Rattle.std.specs.List.{list_any}
use Rattle.std.specs.Ordering.{is_eq}
use Rattle.ul_version.specs.Order.{version_cmp}
use Rattle.ul_version.specs.Fields.{Fields}
use Rattle.ul_prepared.proofs.names.flags_of.Given as goal

abbrev pub invariant-loop-version : goal.invariant-loop-version
invariant-loop-version l = l.flags.items ≡ map (λ (x : Fields). list_any (λ k. is_eq (version_cmp k.now x)) l.kept) (take l.version-index l.versions)
