use Rattle.std.proofs.Common.{◌≡◌, length}
use Rattle.ul_interner.specs.Index.{buckets}
use Rattle.ul_interner.proofs.Indexing.{Built}
use Rattle.ul_interner.proofs.bodies.index_all.Given as goal

abbrev pub invariant-loop-place : goal.invariant-loop-place
invariant-loop-place g l =
    (length l.older ≡ length l.initial.older) × (length l.newest ≡ length l.initial.newest)
    × Built (buckets (length l.initial.newest) l.marks) (length l.initial.newest) l.place l.older l.newest
