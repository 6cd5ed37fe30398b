use Rattle.std.proofs.Common.{take}
use Rattle.ul_placing.specs.Reach.{MarksPlaces}
use Rattle.ul_placing.proofs.reach.mark_places.Given as goal

abbrev pub invariant-loop-place : goal.invariant-loop-place
invariant-loop-place l = MarksPlaces (take l.place-index l.places) l.initial.marks.items l.initial.queue.items l.marks.items l.queue.items
