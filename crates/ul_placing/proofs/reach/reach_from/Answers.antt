use Rattle.std.proofs.Common.{◌≡◌, List, ℕ, length, arith, subst}
use Rattle.ul_region.specs.Truths.{region_at}
use Rattle.ul_placing.specs.Reach.{MarksPlaces}
use Rattle.ul_placing.proofs.Reaching.{reach_begun}
use Rattle.ul_placing.proofs.reach.reach_from.Goals as goal

pub returns : goal.returns
returns c = let size : c.len-size.result ≡ length c.args.prepared.now.nodes.items = omega (arith, c.len-size.ensures, c.args.prepared.now.nodes.ok) in
    reach_begun c.args.algebra.now (region_at c.args.place.now.region.now) c.args.prepared.now (record { marks = c.mark_places.new.marks; queue = c.mark_places.new.queue; aims = c.in_ok-aims.aims }) c.len-size.result c.in_ok-marks.marks.items c.in_ok-queue.queue.items
    c.requires.prepared size (c.in_ok-marks.ensures.items_if_clones_equal (λ y e. e)) c.in_ok-queue.ensures.items
    (subst (λ (z : List ℕ). MarksPlaces z c.in_ok-marks.marks.items c.in_ok-queue.queue.items c.mark_places.new.marks.items c.mark_places.new.queue.items) c.as_slice.ensures.value c.in_ok-mark_places.ensures) c.in_ok-aims.ensures
