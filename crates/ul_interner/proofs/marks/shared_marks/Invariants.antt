use Rattle.std.proofs.Common.{◌≡◌, take}
use Rattle.ul_interner.proofs.marks.shared_marks.Given as goal

abbrev pub invariant-loop-mark : goal.invariant-loop-mark
invariant-loop-mark g l = l.shared.items ≡ take l.mark-index l.marks
