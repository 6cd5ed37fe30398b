use Rattle.std.proofs.Common.{ap, ◌∙◌}
use Rattle.std.specs.Ordering.{is_eq}
use Rattle.std.specs.Str.{bytes_eq}
use Rattle.std.proofs.lemmas.Map.Text.{is_eq-slice_cmp}
use Rattle.ul_nodes.specs.Keys.{key_view}
use Rattle.ul_marker_text.specs.StepViews.{comparison_key}
use Rattle.ul_marker_text.proofs.steps.has_key.Goals as goal

pub returns : goal.returns
returns c =
    let a = key_view c.key_of.result in
    let b = key_view c.key_of-2.result in
    c.is_eq.ensures ∙ (ap is_eq c.cmp.ensures ∙ (is_eq-slice_cmp a b ∙ (ap (λ z. bytes_eq z b) c.key_of.ensures ∙ ap (bytes_eq (comparison_key c.args.comparison)) c.key_of-2.ensures)))
