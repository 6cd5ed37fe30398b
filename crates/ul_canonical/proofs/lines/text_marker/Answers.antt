use Rattle.std.proofs.Common.{List, Some, ◌∙◌, ap, sym}
use Rattle.std.proofs.lemmas.Result.{IfOk-weaker}
use Rattle.ul_comparison.specs.Formulas.{Formula, all, any}
use Rattle.ul_marker.specs.Views.{markers_view}
use Rattle.ul_marker.specs.declared.marker.Marker.{Marker}
use Rattle.ul_region.proofs.ForCallers.{view_all, view_any}
use Rattle.ul_canonical.proofs.Said.{never_said, other_said, star_said}
use Rattle.ul_canonical.proofs.lines.text_marker.Goals as goal

pub returns-then-same : goal.returns-then-same
returns-then-same c =
    ap (λ (f : Formula). Some f) (view_all c.new.result ∙ ap (λ (ms : List Marker). all (markers_view ms)) c.new.ensures.items)
    ∙ star_said c.args.text.now (sym c.same.ensures ∙ c.if-same.true)

pub returns-then-same-2 : goal.returns-then-same-2
returns-then-same-2 c =
    ap (λ (f : Formula). Some f) (view_any c.new-then-same-2.result ∙ ap (λ (ms : List Marker). any (markers_view ms)) c.new-then-same-2.ensures.items)
    ∙ never_said c.args.text.now (sym c.same.ensures ∙ c.if-same.false) (sym c.same-2.ensures ∙ c.if-same-2.true)

pub returns : goal.returns
returns c = IfOk-weaker c.bytes_marker.result _ _ (λ m e. e ∙ other_said c.args.text.now (sym c.same.ensures ∙ c.if-same.false) (sym c.same-2.ensures ∙ c.if-same-2.false)) c.bytes_marker.ensures
