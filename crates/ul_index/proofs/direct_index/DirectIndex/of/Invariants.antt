use Rattle.std.proofs.Common.{◌≡◌, length}
use Rattle.ul_index.specs.DirectPlaces.{AreNextFrom}
use Rattle.ul_index.proofs.DirectPlaces.{AreFirstFrom}
use Rattle.ul_index.proofs.direct_index.DirectIndex.of.Given as goal

abbrev pub invariant-loop-place : goal.invariant-loop-place
invariant-loop-place l =
    AreFirstFrom l.place l.requirements l.first × AreNextFrom l.place l.requirements l.next.items × (length l.next.items ≡ length l.requirements)
