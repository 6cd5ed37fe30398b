use Rattle.std.proofs.Common.{◌≡◌, ◌<◌, ◌∙◌, sym, subst, List, length, get_or}
use Rattle.ul_nodes.proofs.ForCallers.{same_true}
use Rattle.ul_algebra.specs.Spelled.{tree_of}
use Rattle.ul_region.specs.Truths.{DiagramMark}
use Rattle.ul_region.proofs.RowFacts.{tree_found}
use Rattle.ul_region.proofs.rows.Truths.found.Goals as goal

pub returns : goal.returns
returns c = tree_found c.args.self.now.marks.items c.in_ok-place.field-0.now c.index-marks-place.result c.args.truth.now
    (subst (λ (ms : List DiagramMark). c.in_ok-place.field-0.now < length ms) c.as_slice-marks.ensures.value c.if-place-marks.false)
    (subst (λ (ms : List DiagramMark). c.index-marks-place.result ≡ get_or ms c.in_ok-place.field-0.now c.index-marks-place.result) c.as_slice-marks.ensures.value c.index-marks-place.is)
    (same_true (tree_of c.index-marks-place.result) (tree_of c.args.truth.now) (sym c.same.ensures.tree ∙ c.if-not-same.false))
