use Rattle.std.proofs.Common.{length}
use Rattle.ul_interner.specs.Marked.{IsNode}
use Rattle.ul_interner.specs.Index.{bucket_of}
use Rattle.ul_interner.proofs.Indexing.{Walk}
use Rattle.ul_interner.proofs.bodies.Body.find.Given as goal

abbrev pub invariant-loop-next : goal.invariant-loop-next
invariant-loop-next g l = let b = l.self-inside in Walk b.marks.items (length b.newest.items) (bucket_of (length b.newest.items) l.hash) (IsNode l.label l.parts) l.next

abbrev pub decreases-loop-next : goal.decreases-loop-next
decreases-loop-next g l = l.next
