use Rattle.std.proofs.Common.{◌≡◌, ℕ, List, sym, subst, Option, Result}
use Rattle.std.specs.Prelude.{IfOk, option_map}
use Rattle.std.specs.declared.alloc.AllocError.{AllocError}
use Rattle.ul_tree.specs.Views.{tree_view}
use Rattle.ul_tree.specs.declared.tree.Tree.{Tree}
use Rattle.ul_marker_text.specs.IfRead.{region_if_read}
use Rattle.ul_marker_text.specs.MarkerOfText.{marker_of_text}
use Rattle.ul_marker_text.proofs.MarkersRead.{no_utf8}
use Rattle.ul_marker_text.proofs.ReadAnswers.{region_answer}
use Rattle.ul_marker_text.proofs.texts.read_marker.Goals as goal

pub returns-in_default : goal.returns-in_default
returns-in_default c = no_utf8 c.args.bytes.now c.in_default.ensures.cases.0

pub returns : goal.returns
returns c =
    let r = c.read.ensures in
    subst (λ (z : Result (Option Tree) AllocError). IfOk z (λ t. option_map tree_view t ≡ marker_of_text c.args.bytes.now)) (sym c.region_if_read.ensures)
    (subst (λ (b : List ℕ). IfOk (region_if_read c.read.result) (λ t. option_map tree_view t ≡ marker_of_text b)) c.in-Ok.ensures.cases.0
    (region_answer c.in-Ok.text.now c.read.result r.reduced r.not_false r.text r.readable r.refused))
