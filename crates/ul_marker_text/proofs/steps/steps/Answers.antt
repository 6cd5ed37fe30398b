use Rattle.std.proofs.Common.{◌≡◌, ap, sym, ◌∙◌, arith, map, drop, length, ◌-◌, ◌+◌, Some, suc, ◌++◌}
use Rattle.std.proofs.lemmas.List.{drop-drop, length-drop}
use Rattle.ul_marker_text.specs.Rows.{front_step, steps_of}
use Rattle.ul_marker_text.specs.StepViews.{row_view, step_view}
use Rattle.ul_marker_text.proofs.StepFacts.{tail_slice, steps_more, steps_none}
use Rattle.ul_marker_text.proofs.steps.steps.Goals as goal

pub returns-in-None : goal.returns-in-None
returns-in-None c =
    steps_none c.loop-turn.found.items _ _ _ (c.in-None.ensures.front ∙ ap (λ z. front_step (row_view z)) (tail_slice c.args.row.now c.loop-turn.at)) c.loop-turn.invariant.steps

pub loop-turn-preserved : goal.loop-turn-preserved
loop-turn-preserved c =
    let row = c.args.row.now in
    let at = c.loop-turn.at in
    let slice = tail_slice row at in
    let cut = drop-drop c.in-Some.count at row in
    let m = length row - (c.loop-turn.turn + 1) in
    let less : length row - c.loop-turn.turn ≡ suc m = omega arith in
    let size = ap length slice in
    let left = length-drop at row in
    record {
      within = omega (arith, c.in-Some.ensures.within, c.loop-turn.invariant.within, size, left);
      steps = ap (λ z. map step_view z ++ steps_of m (row_view (drop (at + c.in-Some.count) row))) c.in_ok-push-in-Some.ensures.items
          ∙ steps_more c.loop-turn.found.items c.in-Some.step (row_view (drop at row)) (row_view (drop (at + c.in-Some.count) row)) (length row - c.loop-turn.turn) m _ less
          (ap (λ z. Some (step_view c.in-Some.step, row_view z)) (sym cut)
          ∙ ap (λ z. Some (step_view c.in-Some.step, row_view (drop c.in-Some.count z))) (sym slice)
          ∙ c.in-Some.ensures.front
          ∙ ap (λ z. front_step (row_view z)) slice)
          c.loop-turn.invariant.steps;
    }
