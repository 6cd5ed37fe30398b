use Rattle.std.proofs.Common.{◌+◌, [], ◌∷◌, get_or, take}
use Rattle.std.proofs.lemmas.List.{take_more}
use Rattle.ul_placing.proofs.Marking.{marked_then}
use Rattle.ul_placing.proofs.reach.mark_places.Goals as goal

pub loop-place-preserved : goal.loop-place-preserved
loop-place-preserved c = marked_then (take c.loop-place.place-index c.args.places.now) (get_or c.args.places.now c.loop-place.place-index 0 ∷ []) (take (c.loop-place.place-index + 1) c.args.places.now)
    c.args.marks.now.items c.loop-place.marks.items c.mark.new.marks.items c.args.queue.now.items c.loop-place.queue.items c.mark.new.queue.items
    (take_more c.args.places.now c.loop-place.place-index 0 c.loop-place-test.true) c.loop-place.invariant c.in_ok-mark.ensures
