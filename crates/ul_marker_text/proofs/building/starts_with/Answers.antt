use Rattle.std.proofs.Common.{◌<◌, ap, sym, ◌∙◌, arith, length}
use Rattle.ul_tree.specs.Fans.{same_step}
use Rattle.ul_marker_text.specs.Nodes.{starts}
use Rattle.ul_marker_text.specs.StepViews.{step_view}
use Rattle.ul_marker_text.proofs.Grouped.{path_at}
use Rattle.ul_marker_text.proofs.building.starts_with.Goals as goal

pub returns : goal.returns
returns c =
    let s = step_view c.args.step.now in
    let h : c.args.place < length c.args.path.now.items = omega (arith, c.len.ensures, c.if-len-place.false, c.args.path.now.ok) in
    c.same_step.ensures ∙ (ap (λ z. same_step s (step_view z)) c.index.ensures ∙ sym (ap (starts s) (path_at c.args.path.now c.args.place c.index.result.now h)))
