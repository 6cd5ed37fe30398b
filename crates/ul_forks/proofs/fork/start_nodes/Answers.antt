use Rattle.std.proofs.Common.{arith}
use Rattle.ul_forks.proofs.Starting.{roots_all, roots_begun, roots_more}
use Rattle.ul_forks.proofs.fork.start_nodes.Goals as goal

pub loop-extra-init : goal.loop-extra-init
loop-extra-init c = roots_begun c.args.name.now c.args.extras.now c.new-nodes.result.items c.push.new.self.items _ c.new-nodes.ensures.items c.in_ok-push.ensures.items c.in_ok-base_node.ensures

pub loop-extra-preserved : goal.loop-extra-preserved
loop-extra-preserved c = roots_more c.args.name.now c.args.extras.now c.loop-extra.extra-index c.extra-item.result c.loop-extra.nodes.items c.push-in-loop-extra.new.self.items _
    c.loop-extra-test.true c.extra-item.is c.loop-extra.invariant c.in_ok-push-2.ensures.items c.in_ok-node.ensures

pub returns : goal.returns
returns c = roots_all c.args.name.now c.args.extras.now c.loop-extra.extra-index c.loop-extra.nodes.items (omega (arith, c.loop-extra-test.false)) c.loop-extra.invariant
