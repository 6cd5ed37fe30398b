use Rattle.std.proofs.Common.{◌≡◌, true, ap, sym, ◌∙◌, subst}
use Rattle.std.specs.Prelude.{IfOk, Result}
use Rattle.ul_marker.specs.declared.fault.MarkerFault.{MarkerFault}
use Rattle.ul_nodes.specs.Reduced.{IsReduced}
use Rattle.ul_tree.specs.Views.{tree_view}
use Rattle.ul_tree.specs.declared.tree.Tree.{Tree}
use Rattle.ul_tree.proofs.ForCallers.{view_truth}
use Rattle.ul_marker_text.specs.MarkerOfText.{is_readable}
use Rattle.ul_marker_text.specs.MarkerText.{marker_text}
use Rattle.ul_marker_text.proofs.Levels.{truth_readable}
use Rattle.ul_marker_text.proofs.TextsRead.{star_is, node_text_of}
use Rattle.ul_marker_text.proofs.ReadAnswers.{IsNotFalse, spelled_tree, refused_tree, told_spelled, told_not_false, told_other}
use Rattle.ul_marker_text.proofs.Faulty.{same_fault}
use Rattle.ul_marker_text.proofs.texts.read.Goals as goal

pub returns-then-eq-clause-text : goal.returns-then-eq-clause-text
returns-then-eq-clause-text c = ap marker_text (view_truth _) ∙ star_is c.args.text.now c.if-eq.ensures

pub returns-then-eq-clause-readable : goal.returns-then-eq-clause-readable
returns-then-eq-clause-readable c = ap is_readable (view_truth _) ∙ truth_readable true

pub returns-in-Err-clause-refused : goal.returns-in-Err-clause-refused
returns-in-Err-clause-refused c e t h f r m =
    c.in-Err.ensures.refused (same_fault c.in-Err.fault e) t (node_text_of c.args.text.now t c.if-eq.ensures h f m) r

pub returns-clause-reduced : goal.returns-clause-reduced
returns-clause-reduced c =
    let P : Tree → Type 0 = λ t. IsReduced (tree_view t) in
    subst (λ (z : Result Tree MarkerFault). IfOk z P) (sym c.tree_if_spelled.ensures)
    (spelled_tree c.in-Ok.tree c.has_text-told.result P (λ told. c.in-Ok.ensures.reduced))

pub returns-clause-not_false : goal.returns-clause-not_false
returns-clause-not_false c =
    let P : Tree → Type 0 = λ t. IsNotFalse (tree_view t) in
    subst (λ (z : Result Tree MarkerFault). IfOk z P) (sym c.tree_if_spelled.ensures)
    (spelled_tree c.in-Ok.tree c.has_text-told.result P (λ told. told_not_false c.args.text.now (tree_view c.in-Ok.tree) c.has_text-told.result c.has_text-told.ensures told))

pub returns-clause-text : goal.returns-clause-text
returns-clause-text c =
    let P : Tree → Type 0 = λ t. marker_text (tree_view t) ≡ c.args.text.now in
    subst (λ (z : Result Tree MarkerFault). IfOk z P) (sym c.tree_if_spelled.ensures)
    (spelled_tree c.in-Ok.tree c.has_text-told.result P (λ told. told_spelled c.args.text.now (tree_view c.in-Ok.tree) c.has_text-told.result c.has_text-told.ensures told))

pub returns-clause-readable : goal.returns-clause-readable
returns-clause-readable c =
    let text = c.args.text.now in
    let t = tree_view c.in-Ok.tree in
    let answer = c.has_text-told.result in
    let P : Tree → Type 0 = λ t. is_readable (tree_view t) ≡ true in
    subst (λ (z : Result Tree MarkerFault). IfOk z P) (sym c.tree_if_spelled.ensures)
    (spelled_tree c.in-Ok.tree answer P
    (λ told. (c.in-Ok.ensures.tree t (node_text_of text t c.if-eq.ensures c.in-Ok.ensures.reduced
    (told_not_false text t answer c.has_text-told.ensures told) (told_spelled text t answer c.has_text-told.ensures told))).readable))

pub returns-clause-refused : goal.returns-clause-refused
returns-clause-refused c e t h f r m =
    let same = (c.in-Ok.ensures.tree t (node_text_of c.args.text.now t c.if-eq.ensures h f m)).same in
    let other = refused_tree c.in-Ok.tree c.has_text-told.result (sym c.tree_if_spelled.ensures ∙ e) in
    told_other c.args.text.now (tree_view c.in-Ok.tree) c.has_text-told.result c.has_text-told.ensures other (λ q. f (sym same ∙ q)) (ap marker_text same ∙ m)
