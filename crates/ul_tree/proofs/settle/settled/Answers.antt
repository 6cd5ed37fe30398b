use Rattle.std.proofs.Common.{◌≡◌, [], ap, ◌∙◌, subst, sym, refl}
use Rattle.std.specs.Option.{option_map}
use Rattle.std.proofs.lemmas.Result.{IfOk-weaker}
use Rattle.ul_nodes.specs.Rows.{earliest, results_view, parts_view}
use Rattle.ul_nodes.specs.Keys.{level_view}
use Rattle.ul_nodes.specs.Plain.{Plain}
use Rattle.ul_nodes.specs.Reduced.{IsReduced}
use Rattle.ul_tree.specs.SimplifyViews.{reduced_tree, settled_tree}
use Rattle.ul_tree.specs.Views.{tree_view}
use Rattle.ul_nodes.proofs.ForCallers.{earliest_viewed}
use Rattle.ul_tree.proofs.PiecesInCode.{parts_fit, first_reduced, other_reduced}
use Rattle.ul_tree.proofs.KeptParts.{kept_reduced, kept_level_is}
use Rattle.ul_base.proofs.ForCallers.{made_holds}
use Rattle.ul_tree.proofs.settle.settled.Goals as goal
use Rattle.ul_tree.proofs.settle.settled.Goals.{In_ok-first, In_ok-other}

-- the part before all pieces
first_is : (c : In_ok-first) → tree_view c.in_ok-first.first ≡ earliest c.is_carried-carried.result (results_view tree_view c.args.results.items) (option_map tree_view c.args.rest) (tree_view c.args.otherwise.now)
first_is c =
    let m = c.is_carried-carried.result in
    let o = option_map tree_view c.args.rest in
    let d = tree_view c.args.otherwise.now in
    c.in_ok-first.ensures ∙ ap tree_view c.earliest.ensures ∙ earliest_viewed tree_view m c.deref.result.now c.args.rest c.args.otherwise.now ∙ ap (λ zs. earliest m (results_view tree_view zs) o d) c.deref.ensures.value

first_fits : (c : In_ok-first) → IsReduced (tree_view c.in_ok-first.first)
first_fits c =
    first_reduced tree_view c.is_carried-carried.result c.args.results.items c.args.results.items (option_map tree_view c.args.rest) (tree_view c.args.otherwise.now) (tree_view c.in_ok-first.first)
    (first_is c) refl c.requires.results_reduced c.requires.rest_reduced c.requires.otherwise_reduced

pub closed_parts-requires-clause-kinds : goal.closed_parts-requires-clause-kinds
closed_parts-requires-clause-kinds c =
    made_holds c.kept_level-kept.result (c.in_ok-other.other, c.in_ok-other.parts) _ c.in_ok-other.ensures c.kept_level-kept.ensures.kinds (level_view c.args.level) c.requires.kinds

pub closed_parts-requires-clause-parts_reduced : goal.closed_parts-requires-clause-parts_reduced
closed_parts-requires-clause-parts_reduced c =
    let parts = made_holds c.kept_level-kept.result (c.in_ok-other.other, c.in_ok-other.parts) _ c.in_ok-other.ensures c.kept_level-kept.ensures.parts in
    parts_fit tree_view c.in_ok-other.parts.items
    (kept_reduced tree_view c.is_carried-carried.result c.in_ok-other.parts.items (results_view tree_view c.args.results.items) (tree_view c.in_ok-first.first) [] parts c.requires.results_reduced
    (first_fits (goal.at.closed_parts-requires-clause-parts_reduced c).In_ok-first))

pub closed_parts-requires-clause-other_reduced : goal.closed_parts-requires-clause-other_reduced
closed_parts-requires-clause-other_reduced c =
    let other = made_holds c.kept_level-kept.result (c.in_ok-other.other, c.in_ok-other.parts) _ c.in_ok-other.ensures c.kept_level-kept.ensures.other in
    other_reduced tree_view c.is_carried-carried.result c.args.results.items c.args.results.items (option_map tree_view c.args.rest) (tree_view c.in_ok-first.first) _ (tree_view c.in_ok-other.other)
    other refl refl c.requires.results_reduced c.requires.rest_reduced (first_fits (goal.at.closed_parts-requires-clause-other_reduced c).In_ok-first)

-- what is closed is the level of the rule
closed_is : (c : In_ok-other) → tree_view c.in_ok-first.first ≡ earliest c.is_carried-carried.result (results_view tree_view c.args.results.items) (option_map tree_view c.args.rest) (tree_view c.args.otherwise.now)
    → reduced_tree c.args.level c.in_ok-other.parts.items c.in_ok-other.other ≡ settled_tree c.args.level c.args.results.items c.args.rest c.args.otherwise.now
closed_is c first =
    let l = level_view c.args.level in
    let told = c.kept_level-kept.ensures in
    let same = c.is_carried-carried.ensures in
    kept_level_is l c.is_carried-carried.result (results_view tree_view c.args.results.items) (option_map tree_view c.args.rest) (tree_view c.args.otherwise.now) (tree_view c.in_ok-first.first) (tree_view c.in_ok-other.other) (parts_view tree_view c.in_ok-other.parts.items)
    same first (made_holds c.kept_level-kept.result (c.in_ok-other.other, c.in_ok-other.parts) _ c.in_ok-other.ensures told.other) (made_holds c.kept_level-kept.result (c.in_ok-other.other, c.in_ok-other.parts) _ c.in_ok-other.ensures told.parts)

pub closed_parts-requires-clause-reduced : goal.closed_parts-requires-clause-reduced
closed_parts-requires-clause-reduced c =
    let w = goal.at.closed_parts-requires-clause-reduced c in
    subst (λ (z : Plain). IsReduced z) (sym (closed_is w.In_ok-other (first_is w.In_ok-first))) c.requires.reduced

pub returns : goal.returns
returns c =
    let w = goal.at.returns c in
    IfOk-weaker c.closed_parts.result _ _ (λ t is. is ∙ closed_is w.In_ok-other (first_is w.In_ok-first)) c.closed_parts.ensures
