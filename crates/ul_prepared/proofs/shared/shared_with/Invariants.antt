use Rattle.std.proofs.Common.{◌≡◌, ◌++◌, map}
use Rattle.std.specs.Prelude.{All}
use Rattle.ul_region.specs.Truths.{IsGrown}
use Rattle.ul_prepared.specs.Lists.{AreListed, lists_in, releases_in}
use Rattle.ul_prepared.specs.Shared.{IsShared, lists_shared, releases_shared}
use Rattle.ul_prepared.proofs.shared.shared_with.Given as goal

abbrev pub invariant-loop-own : goal.invariant-loop-own
invariant-loop-own g l = record {
  grown : IsGrown l.initial.algebra l.initial.truths.marks.items l.algebra l.truths.marks.items;
  shared : All (IsShared l.algebra l.truths.marks.items) l.shared.items;
  left : All AreListed l.own-iterator.rest.items;
  releases : map releases_shared l.shared.items ++ map releases_in l.own-iterator.rest.items ≡ map releases_in l.fn.names.items;
  lists : map lists_shared l.shared.items ++ map lists_in l.own-iterator.rest.items ≡ map lists_in l.fn.names.items;
}
