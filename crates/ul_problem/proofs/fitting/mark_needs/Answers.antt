use Rattle.std.proofs.Common.{subst, List, Bool}
use Rattle.ul_problem.specs.Marks.{IsNeedMarked}
use Rattle.ul_problem.proofs.Marking.{marking_more, marking_ends}
use Rattle.ul_problem.proofs.fitting.mark_needs.Goals as goal

pub loop-k-preserved : goal.loop-k-preserved
loop-k-preserved c =
    marking_more c.args.nodes.now c.args.needs.now c.loop-k.k c.loop-k.marks.items c.index-needs-k.result c.loop-k-test.true c.index-needs-k.is
    (subst (λ (marks : List Bool). IsNeedMarked c.args.nodes.now marks c.index-needs-k.result) c.deref.ensures.value (c.is_need_after.ensures.0 c.if-not-is_need_after.false)) c.loop-k.invariant

pub returns-clause-marked : goal.returns-clause-marked
returns-clause-marked c = λ _. (marking_ends c.args.nodes.now c.args.needs.now c.loop-k.k c.loop-k.marks.items c.loop-k-test.false c.loop-k.invariant).1
