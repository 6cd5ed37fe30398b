use Rattle.std.proofs.Common.{take}
use Rattle.ul_ranges.specs.Marks.{IsMarkedWord}
use Rattle.ul_ranges.proofs.forms.word_of.Given as goal

abbrev pub invariant-loop-member : goal.invariant-loop-member
invariant-loop-member l = IsMarkedWord l.word (take l.member-index l.member-items)
