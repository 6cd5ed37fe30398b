use Rattle.std.proofs.Common.{map, take}
use Rattle.ul_placing.specs.Reach.{MarksPlaces, node_of}
use Rattle.ul_placing.proofs.reach.mark_needs.Given as goal

abbrev pub invariant-loop-need : goal.invariant-loop-need
invariant-loop-need l = MarksPlaces (map node_of (take l.need-index l.needs)) l.initial.marks.items l.initial.queue.items l.marks.items l.queue.items
