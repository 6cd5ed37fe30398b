use Rattle.std.proofs.Common.{◌+◌, [], ◌∷◌, map, take}
use Rattle.ul_placing.specs.Reach.{node_of}
use Rattle.ul_placing.proofs.Lists.{mapped_front}
use Rattle.ul_placing.proofs.Marking.{marked_then}
use Rattle.ul_placing.proofs.reach.mark_needs.Goals as goal

pub loop-need-preserved : goal.loop-need-preserved
loop-need-preserved c = marked_then (map node_of (take c.loop-need.need-index c.args.needs.now)) (node_of c.need-item.result ∷ []) (map node_of (take (c.loop-need.need-index + 1) c.args.needs.now))
    c.args.marks.now.items c.loop-need.marks.items c.mark.new.marks.items c.args.queue.now.items c.loop-need.queue.items c.mark.new.queue.items
    (mapped_front node_of c.args.needs.now c.loop-need.need-index c.need-item.result c.loop-need-test.true c.need-item.is) c.loop-need.invariant c.in_ok-mark.ensures
