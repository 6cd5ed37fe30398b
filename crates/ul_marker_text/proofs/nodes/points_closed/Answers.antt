use Rattle.std.proofs.Common.{◌∙◌, ap, sym, subst}
use Rattle.std.specs.Prelude.{Option, Vec}
use Rattle.std.specs.declared.alloc.Global.{Global}
use Rattle.std.proofs.lemmas.Result.{IfOk-weaker}
use Rattle.ul_base.proofs.ForCallers.{made_holds}
use Rattle.ul_tree.specs.Joins.{trees_made}
use Rattle.ul_nodes.specs.Keys.{level_view}
use Rattle.ul_nodes.specs.Plain.{Branches, node}
use Rattle.ul_nodes.specs.Reduced.{Fits}
use Rattle.ul_tree.specs.Views.{tree_view}
use Rattle.ul_nodes.specs.declared.level.Key.{Key}
use Rattle.ul_tree.specs.declared.tree.Tree.{Tree}
use Rattle.ul_tree.proofs.ForCallers.{view_truth}
use Rattle.ul_marker_text.specs.NodeViews.{KeysAnswer}
use Rattle.ul_marker_text.specs.Nodes.{key_branches, AreKeys, BranchesFit}
use Rattle.ul_marker_text.specs.StepViews.{above_view}
use Rattle.ul_marker_text.proofs.NodeFacts.{keeps_given, keeps_none, no_keys}
use Rattle.ul_marker_text.proofs.nodes.points_closed.Goals as goal

pub returns-in-None : goal.returns-in-None
returns-in-None c =
    let l = level_view c.args.level in
    let bs = key_branches c.args.points.items in
    let keys = made_holds c.point_keys.result c.in_ok-other.made (λ o. KeysAnswer l bs o) c.in_ok-other.ensures.1 c.point_keys.ensures in
    let wrong = subst (λ (o : Option (Vec (Key × Tree) Global)). KeysAnswer l bs o) c.in-None.is keys in
    keeps_none (above_view c.args.above) _ _ (view_truth _) (no_keys bs l (above_view c.args.above) (tree_view c.args.other) wrong)

pub closed_if_reduced-requires : goal.closed_if_reduced-requires
closed_if_reduced-requires c =
    let l = level_view c.args.level in
    let bs = key_branches c.args.points.items in
    let keys = made_holds c.point_keys.result c.in_ok-other.made (λ o. KeysAnswer l bs o) c.in_ok-other.ensures.1 c.point_keys.ensures in
    let given = subst (λ (o : Option (Vec (Key × Tree) Global)). KeysAnswer l bs o) c.in-Some.is keys in
    record {
      kinds = given.kinds;
      keys = subst (λ (z : Branches). AreKeys l z) (sym given.view) given.valid;
      parts = subst (λ (z : Branches). BranchesFit l z) (sym given.view) c.requires.parts;
      other = subst (λ (z : Tree). Fits (tree_view z) l) (sym c.in_ok-other.ensures.0) c.requires.other;
    }

pub returns-in-Some : goal.returns-in-Some
returns-in-Some c =
    let l = level_view c.args.level in
    let bs = key_branches c.args.points.items in
    let keys = made_holds c.point_keys.result c.in_ok-other.made (λ o. KeysAnswer l bs o) c.in_ok-other.ensures.1 c.point_keys.ensures in
    let given = subst (λ (o : Option (Vec (Key × Tree) Global)). KeysAnswer l bs o) c.in-Some.is keys in
    let same = ap (λ z. node l (tree_view z) (trees_made c.in-Some.made.items)) c.in_ok-other.ensures.0 ∙ ap (node l (tree_view c.args.other)) given.view in
    IfOk-weaker c.closed_if_reduced.result _ _ (λ tree kept. keeps_given (above_view c.args.above) _ _ _ same kept) c.closed_if_reduced.ensures
