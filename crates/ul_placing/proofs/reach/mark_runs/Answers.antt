use Rattle.std.proofs.Common.{List, map, subst}
use Rattle.ul_problem.specs.declared.problem.Need.{Need}
use Rattle.ul_placing.specs.Reach.{MarksPlaces, node_of}
use Rattle.ul_placing.proofs.Running.{run_marked_then}
use Rattle.ul_placing.proofs.reach.mark_runs.Goals as goal

pub loop-run-preserved : goal.loop-run-preserved
loop-run-preserved c = run_marked_then c.args.runs.now c.loop-run.run-index c.run-item.result c.args.marks.now.items c.loop-run.marks.items c.mark_needs.new.marks.items c.args.queue.now.items c.loop-run.queue.items c.mark_needs.new.queue.items
    c.loop-run-test.true c.run-item.is c.loop-run.invariant
    (subst (λ (z : List Need). MarksPlaces (map node_of z) c.loop-run.marks.items c.loop-run.queue.items c.mark_needs.new.marks.items c.mark_needs.new.queue.items) c.as_slice.ensures c.in_ok-mark_needs.ensures)
