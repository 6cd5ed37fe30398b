use Rattle.std.proofs.Common.{take}
use Rattle.ul_ranges.specs.Marks.{HasMarked}
use Rattle.ul_ranges.proofs.forms.blocks_of.Given as goal

abbrev pub invariant-loop-member : goal.invariant-loop-member
invariant-loop-member l = HasMarked l.size l.blocks.items (take l.member-index l.members)
