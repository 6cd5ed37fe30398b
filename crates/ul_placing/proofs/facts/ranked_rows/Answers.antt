use Rattle.std.proofs.Common.{arith, ◌∙◌}
use Rattle.std.proofs.lemmas.List.{nil_from_length}
use Rattle.std.specs.Vec.Iter.{into_iter_items}
use Rattle.ul_placing.specs.Facts.{needs_ranked}
use Rattle.ul_placing.proofs.Running.{rows_left, rows_done}
use Rattle.ul_placing.proofs.facts.ranked_rows.Goals as goal

pub loop-run-preserved : goal.loop-run-preserved
loop-run-preserved c = rows_left (needs_ranked c.args.ranks.now) c.in-Some.run' (into_iter_items c.loop-run.run-iterator) (into_iter_items c.next.new.self) c.loop-run.rows.items c.push_run.new.rows.items _
    c.in_ok-push_run.ensures c.in-Some.ensures.steps.0 c.loop-run.invariant

pub returns : goal.returns
returns c = c.of.ensures ∙ rows_done (needs_ranked c.args.ranks.now) (into_iter_items c.loop-run.run-iterator) c.loop-run.rows.items _
    (nil_from_length (into_iter_items c.loop-run.run-iterator) (omega (arith, c.in-None.ensures.steps.0, c.loop-run.run-iterator.rest.ok))) c.loop-run.invariant
