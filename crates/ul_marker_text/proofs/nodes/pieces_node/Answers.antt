use Rattle.std.proofs.Common.{◌<◌, sym, ap, ◌∙◌, subst, length, ◌∷◌, [], arith}
use Rattle.std.specs.Prelude.{Option, Vec}
use Rattle.std.specs.declared.alloc.Global.{Global}
use Rattle.std.proofs.lemmas.Result.{IfOk-weaker}
use Rattle.ul_base.proofs.ForCallers.{made_holds}
use Rattle.ul_tree.specs.Fans.{pieces_from}
use Rattle.ul_specifier.proofs.ForCallers.{not_empty}
use Rattle.ul_tree.specs.Joins.{trees_made}
use Rattle.ul_nodes.specs.Levels.{python_level}
use Rattle.ul_nodes.specs.Plain.{Plain, Branches, node}
use Rattle.ul_nodes.specs.Reduced.{Fits}
use Rattle.ul_tree.specs.Views.{tree_view}
use Rattle.ul_nodes.specs.declared.level.Key.{Key}
use Rattle.ul_tree.specs.declared.tree.Tree.{Tree}
use Rattle.ul_tree.proofs.ForCallers.{view_truth}
use Rattle.ul_marker_text.specs.NodeViews.{KeysAnswer}
use Rattle.ul_marker_text.specs.Nodes.{AreKeys, BranchesFit, number_branches, parts_view}
use Rattle.ul_marker_text.specs.StepViews.{above_view}
use Rattle.ul_marker_text.proofs.NodeCode.{first_piece}
use Rattle.ul_marker_text.proofs.NodeFacts.{keeps_given, keeps_none, no_keys, opened_node, pieces_fit}
use Rattle.ul_marker_text.proofs.nodes.pieces_node.Goals as goal

pub closed_if_reduced-requires : goal.closed_if_reduced-requires
closed_if_reduced-requires c =
    let filled = not_empty _ (sym c.if-is_empty.false ∙ c.is_empty.ensures) in
    let some : 0 < length c.in_ok-pieces.pieces.items = omega (arith, filled, c.in_ok-pieces.pieces.ok) in
    let rest = number_branches c.remove-other.new.self.items in
    let cut = first_piece c.in_ok-pieces.pieces.items c.remove-other.result c.remove-other.new.self.items some c.remove-other.ensures.value c.remove-other.ensures.items in
    let all = subst (λ (z : Branches). BranchesFit python_level z) (sym c.in_ok-pieces.ensures ∙ cut) (pieces_fit (parts_view c.args.parts.items) 0 c.requires) in
    let keys = made_holds c.number_keys.result c.in_ok-other.made (λ o. KeysAnswer python_level rest o) c.in_ok-other.ensures.1 c.number_keys.ensures in
    let given = subst (λ (o : Option (Vec (Key × Tree) Global)). KeysAnswer python_level rest o) c.in-Some.is keys in
    record {
      kinds = given.kinds;
      keys = subst (λ (z : Branches). AreKeys python_level z) (sym given.view) given.valid;
      parts = subst (λ (z : Branches). BranchesFit python_level z) (sym given.view) all.1;
      other = subst (λ (z : Tree). Fits (tree_view z) python_level) (sym c.in_ok-other.ensures.0) all.0;
    }

pub returns-in-None : goal.returns-in-None
returns-in-None c =
    let filled = not_empty _ (sym c.if-is_empty.false ∙ c.is_empty.ensures) in
    let some : 0 < length c.in_ok-pieces.pieces.items = omega (arith, filled, c.in_ok-pieces.pieces.ok) in
    let rest = number_branches c.remove-other.new.self.items in
    let cut = first_piece c.in_ok-pieces.pieces.items c.remove-other.result c.remove-other.new.self.items some c.remove-other.ensures.value c.remove-other.ensures.items in
    let whole = sym c.in_ok-pieces.ensures ∙ cut in
    let keys = made_holds c.number_keys.result c.in_ok-other.made (λ o. KeysAnswer python_level rest o) c.in_ok-other.ensures.1 c.number_keys.ensures in
    let wrong = subst (λ (o : Option (Vec (Key × Tree) Global)). KeysAnswer python_level rest o) c.in-None.is keys in
    keeps_none (above_view c.args.above) _ _ (view_truth _)
    (λ h. no_keys rest python_level (above_view c.args.above) (tree_view c.remove-other.result.1) wrong
    (subst (λ (t : Plain). Fits t (above_view c.args.above)) (opened_node (pieces_from 0 (parts_view c.args.parts.items)) rest (c.remove-other.result.0 ∷ []) (tree_view c.remove-other.result.1) whole) h))

pub returns-in-Some : goal.returns-in-Some
returns-in-Some c =
    let filled = not_empty _ (sym c.if-is_empty.false ∙ c.is_empty.ensures) in
    let some : 0 < length c.in_ok-pieces.pieces.items = omega (arith, filled, c.in_ok-pieces.pieces.ok) in
    let rest = number_branches c.remove-other.new.self.items in
    let cut = first_piece c.in_ok-pieces.pieces.items c.remove-other.result c.remove-other.new.self.items some c.remove-other.ensures.value c.remove-other.ensures.items in
    let whole = sym c.in_ok-pieces.ensures ∙ cut in
    let keys = made_holds c.number_keys.result c.in_ok-other.made (λ o. KeysAnswer python_level rest o) c.in_ok-other.ensures.1 c.number_keys.ensures in
    let given = subst (λ (o : Option (Vec (Key × Tree) Global)). KeysAnswer python_level rest o) c.in-Some.is keys in
    let same = ap (λ z. node python_level (tree_view z) (trees_made c.in-Some.made.items)) c.in_ok-other.ensures.0 ∙ ap (node python_level (tree_view c.remove-other.result.1)) given.view
    ∙ sym (opened_node (pieces_from 0 (parts_view c.args.parts.items)) rest (c.remove-other.result.0 ∷ []) (tree_view c.remove-other.result.1) whole) in
    IfOk-weaker c.closed_if_reduced.result _ _ (λ tree kept. keeps_given (above_view c.args.above) _ _ _ same kept) c.closed_if_reduced.ensures
