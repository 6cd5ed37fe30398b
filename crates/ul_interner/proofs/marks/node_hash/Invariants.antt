use Rattle.std.proofs.Common.{◌≡◌, map, take}
use Rattle.std.specs.List.{fold}
use Rattle.ul_core.specs.Hashes.{next_hash}
use Rattle.ul_interner.specs.Marked.{stored_hash}
use Rattle.ul_interner.proofs.marks.node_hash.Given as goal

abbrev pub invariant-loop-part : goal.invariant-loop-part
invariant-loop-part g l = l.hash ≡ fold next_hash (g.L.Label.hash_of l.label) (map stored_hash (take l.part-index l.parts))
