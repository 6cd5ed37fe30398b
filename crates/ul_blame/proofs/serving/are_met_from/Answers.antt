use Rattle.std.proofs.Common.{arith}
use Rattle.ul_blame.specs.Choices.{chosen}
use Rattle.ul_blame.proofs.Chosen.{from_all, from_more}
use Rattle.ul_blame.proofs.serving.are_met_from.Goals as goal

pub loop-k-init : goal.loop-k-init
loop-k-init c = λ k s l. absurd (omega (arith, s, l))

pub loop-k-preserved : goal.loop-k-preserved
loop-k-preserved c =
    from_more c.args.problem.now (chosen c.args.choice.now) c.args.flags.now c.args.all.now c.args.place c.loop-k.k c.loop-k.invariant (c.is_met_at.ensures c.if-not-is_met_at.false)

pub returns : goal.returns
returns c = λ _. from_all c.args.problem.now (chosen c.args.choice.now) c.args.flags.now c.args.all.now c.args.place c.loop-k.k c.loop-k-test.false c.loop-k.invariant
