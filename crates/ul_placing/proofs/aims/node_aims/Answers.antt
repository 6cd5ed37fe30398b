use Rattle.std.proofs.Common.{ℕ, List, subst}
use Rattle.ul_region.specs.Truths.{region_at}
use Rattle.ul_placing.specs.Runs.{IsStretch}
use Rattle.ul_placing.proofs.Running.{runs_next}
use Rattle.ul_placing.proofs.aims.node_aims.Goals as goal

pub loop-first-preserved : goal.loop-first-preserved
loop-first-preserved c = runs_next (region_at c.args.place.now.region.now) c.args.planned.now c.loop-first.first c.run_end-end.result c.in_ok-run.run' c.requires.shared c.requires.rows.count
    (subst (λ (z : List ℕ). IsStretch z c.loop-first.first c.run_end-end.result) c.as_slice-lists.ensures.value c.run_end-end.ensures) c.in_ok-run.ensures
    c.loop-first.runs.items c.push.new.self.items c.in_ok-push.ensures.items c.loop-first.invariant
