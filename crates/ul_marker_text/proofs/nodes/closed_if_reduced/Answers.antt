use Rattle.std.proofs.Common.{◌≡◌, ◌≢◌, ap, sym, ◌∙◌, subst, List, [], None, length, arith}
use Rattle.std.specs.Prelude.{All}
use Rattle.std.specs.Ordering.{is_lt}
use Rattle.std.proofs.lemmas.Result.{IfOk-weaker}
use Rattle.ul_specifier.proofs.ForCallers.{not_empty}
use Rattle.ul_tree.specs.Joins.{trees_made}
use Rattle.ul_nodes.specs.Keys.{level_view}
use Rattle.ul_nodes.specs.Plain.{Plain, carries, done}
use Rattle.ul_nodes.specs.Reduced.{IsReduced, Fits}
use Rattle.ul_tree.specs.Views.{tree_view}
use Rattle.ul_nodes.specs.declared.level.Key.{Key}
use Rattle.ul_tree.specs.declared.tree.Tree.{Tree}
use Rattle.ul_tree.proofs.ForCallers.{view_truth}
use Rattle.ul_marker_text.specs.Nodes.{are_apart}
use Rattle.ul_marker_text.specs.StepViews.{above_view}
use Rattle.ul_marker_text.proofs.NodeCode.{level_first, trees_reduced, some_made}
use Rattle.ul_marker_text.proofs.NodeFacts.{keeps_none, keeps_itself, not_apart, node_fits, close_node}
use Rattle.ul_marker_text.proofs.nodes.closed_if_reduced.Goals as goal

pub are_apart-requires-clause-made_reduced : goal.are_apart-requires-clause-made_reduced
are_apart-requires-clause-made_reduced c =
    subst (λ (xs : List (Key × Tree)). All (λ e. IsReduced (tree_view e.1)) xs) (sym c.deref.ensures.value) (trees_reduced c.args.level c.args.made.items c.requires.parts)

pub returns-then-not-are_apart : goal.returns-then-not-are_apart
returns-then-not-are_apart c =
    let l = level_view c.args.level in
    let d = tree_view c.args.other in
    let e : c.are_apart.result ≡ are_apart None (carries l) d (trees_made c.args.made.items) =
    c.are_apart.ensures ∙ ap (λ m. are_apart None m d (trees_made c.deref.result.now)) c.is_carried.ensures ∙ ap (λ z. are_apart None (carries l) d (trees_made z)) c.deref.ensures.value in
    keeps_none (above_view c.args.above) _ _ (view_truth _) (not_apart (trees_made c.args.made.items) l (above_view c.args.above) d (sym e ∙ c.if-not-are_apart.true))

pub closed-requires-clause-reduced : goal.closed-requires-clause-reduced
closed-requires-clause-reduced c =
    let l = level_view c.args.level in
    let d = tree_view c.args.other in
    let bs = trees_made c.args.made.items in
    let e : c.are_apart.result ≡ are_apart None (carries l) d bs =
    c.are_apart.ensures ∙ ap (λ m. are_apart None m d (trees_made c.deref.result.now)) c.is_carried.ensures ∙ ap (λ z. are_apart None (carries l) d (trees_made z)) c.deref.ensures.value in
    let some = not_empty _ (sym c.if-is_empty.false ∙ c.is_empty.ensures) in
    let z : length c.args.made.items ≢ 0 = omega (arith, some, c.args.made.ok) in
    let n : bs ≢ done = some_made c.args.made.items z in
    subst (λ (t : Plain). IsReduced t) (sym (close_node bs l d n))
    (node_fits bs l [] d n (ap is_lt (level_first c.args.level)) c.requires.keys c.requires.parts c.requires.other (sym e ∙ c.if-not-are_apart.false))

pub returns : goal.returns
returns c =
    let l = level_view c.args.level in
    let d = tree_view c.args.other in
    let bs = trees_made c.args.made.items in
    let above = above_view c.args.above in
    let e : c.are_apart.result ≡ are_apart None (carries l) d bs =
    c.are_apart.ensures ∙ ap (λ m. are_apart None m d (trees_made c.deref.result.now)) c.is_carried.ensures ∙ ap (λ z. are_apart None (carries l) d (trees_made z)) c.deref.ensures.value in
    let some = not_empty _ (sym c.if-is_empty.false ∙ c.is_empty.ensures) in
    let z : length c.args.made.items ≢ 0 = omega (arith, some, c.args.made.ok) in
    let n : bs ≢ done = some_made c.args.made.items z in
    let fits = node_fits bs l above d n (sym c.is_below.ensures ∙ c.if-not-is_below.false) c.requires.keys c.requires.parts c.requires.other (sym e ∙ c.if-not-are_apart.false) in
    IfOk-weaker c.closed.result _ _
    (λ tree is. keeps_itself above _ _ (subst (λ (t : Plain). Fits t above) (sym (is ∙ close_node bs l d n)) fits) (is ∙ close_node bs l d n)) c.closed.ensures
