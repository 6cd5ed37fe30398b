use Rattle.std.proofs.Common.{arith}
use Rattle.ul_blame.specs.Choices.{chosen}
use Rattle.ul_blame.proofs.Chosen.{fit_all, fit_more}
use Rattle.ul_blame.proofs.serving.are_fit.Goals as goal

pub loop-node-preserved : goal.loop-node-preserved
loop-node-preserved c =
    fit_more c.args.problem.now (chosen c.args.choice.now) c.loop-node.node c.loop-node.invariant (c.is_fit_where_chosen.ensures c.if-not-is_fit_where_chosen.false)

pub returns : goal.returns
returns c = λ _. fit_all c.args.problem.now c.args.choice.now c.loop-node.node (omega (arith, c.if-choice-nodes.false, c.loop-node-test.false)) c.loop-node.invariant
