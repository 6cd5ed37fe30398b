use Rattle.std.proofs.Common.{◌∙◌, ap, sym}
use Rattle.std.proofs.lemmas.Result.{IfOk-weaker}
use Rattle.ul_tree.specs.PathList.{paths_to_true}
use Rattle.ul_tree.specs.Views.{tree_view}
use Rattle.ul_marker_text.specs.Printing.{paths_behind}
use Rattle.ul_marker_text.proofs.TreeTexts.{star_text, printed_text}
use Rattle.ul_marker_text.proofs.texts.whole_text.Goals as goal

pub returns-then-known : goal.returns-then-known
returns-then-known c =
    IfOk-weaker c.from_str.result _ _ (λ star is. is ∙ star_text (tree_view c.args.tree.now) (sym c.if-known.ensures)) c.from_str.ensures.ok

pub returns : goal.returns
returns c =
    printed_text (tree_view c.args.tree.now) _ c.requires (sym c.if-known.ensures)
    (c.in_ok-print.ensures ∙ ap (λ z. paths_behind z _ (paths_to_true (tree_view c.args.tree.now))) c.new-out.ensures.bytes)
