use Rattle.std.proofs.Common.{arith, ap, length}
use Rattle.ul_tree.proofs.Rebuilt.{point_step, points_end}
use Rattle.ul_tree.proofs.join.points_of.Goals as goal

pub loop-text-preserved : goal.loop-text-preserved
loop-text-preserved c = record {
  made = point_step c.loop-text.points.items c.push.new.self.items c.in-Some.text c.in-Some-next.part c.loop-text.text-iterator.rest.items c.next.new.self.rest.items c.loop-text.left.rest.items c.next-in-loop-text.new.self.rest.items _
      c.in_ok-push-in-Some-next.ensures.items c.in-Some.ensures.steps.0 c.in-Some-next.ensures.items c.loop-text.invariant.made;
  even = let p = ap length c.in-Some.ensures.steps.0 in let q = ap length c.in-Some-next.ensures.items in omega (arith, p, q, c.loop-text.invariant.even);
}

pub returns : goal.returns
returns c = points_end c.loop-text.points.items c.loop-text.text-iterator.rest.items c.loop-text.left.rest.items _ (omega (arith, c.in-None.ensures.steps.0, c.loop-text.text-iterator.rest.ok)) c.loop-text.invariant.even c.loop-text.invariant.made
