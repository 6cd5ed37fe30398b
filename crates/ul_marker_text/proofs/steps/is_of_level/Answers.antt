use Rattle.std.proofs.Common.{ap, ◌∙◌}
use Rattle.std.specs.Ordering.{is_eq}
use Rattle.std.specs.Str.{bytes_eq}
use Rattle.std.proofs.lemmas.Map.Text.{is_eq-slice_cmp}
use Rattle.ul_nodes.specs.Keys.{level_view}
use Rattle.ul_marker_text.specs.StepViews.{comparison_level}
use Rattle.ul_marker_text.proofs.steps.is_of_level.Goals as goal

pub returns : goal.returns
returns c =
    let a = level_view c.level_of.result in
    let b = level_view c.level_of-2.result in
    c.is_eq.ensures ∙ (ap is_eq c.cmp.ensures ∙ (is_eq-slice_cmp a b ∙ (ap (λ z. bytes_eq z b) c.level_of.ensures.level ∙ ap (bytes_eq (comparison_level c.args.comparison)) c.level_of-2.ensures.level)))
