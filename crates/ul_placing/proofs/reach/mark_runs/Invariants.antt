use Rattle.std.specs.Prelude.{flat_map}
use Rattle.std.proofs.Common.{take}
use Rattle.ul_placing.specs.Reach.{MarksPlaces, targets_of}
use Rattle.ul_placing.specs.Runs.{rows_of}
use Rattle.ul_placing.proofs.reach.mark_runs.Given as goal

abbrev pub invariant-loop-run : goal.invariant-loop-run
invariant-loop-run l = MarksPlaces (flat_map targets_of (rows_of (take l.run-index l.runs))) l.initial.marks.items l.initial.queue.items l.marks.items l.queue.items
