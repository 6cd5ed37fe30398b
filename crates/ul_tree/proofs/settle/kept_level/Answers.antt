use Rattle.std.proofs.Common.{ap, ◌∙◌}
use Rattle.std.specs.Option.{option_map}
use Rattle.std.proofs.lemmas.Result.{IfOk-weaker}
use Rattle.ul_nodes.specs.Rows.{own_or, latest, results_view}
use Rattle.ul_tree.specs.Views.{tree_view}
use Rattle.ul_nodes.proofs.ForCallers.{latest_viewed}
use Rattle.ul_base.proofs.ForCallers.{made_holds}
use Rattle.ul_tree.proofs.settle.kept_level.Goals as goal

pub returns-clause-other : goal.returns-clause-other
returns-clause-other c =
    let m = c.args.carried in
    let z = c.args.first.now in
    let o = option_map tree_view c.args.rest in
    IfOk-weaker c.beside.result _ _
    (λ kept told.
    ap tree_view told.0 ∙ c.in_ok-other.ensures
    ∙ ap (own_or o) (ap tree_view c.latest.ensures ∙ latest_viewed tree_view m c.deref.result.now z ∙ ap (λ zs. latest m (results_view tree_view zs) (tree_view z)) c.deref.ensures.value))
    c.beside.ensures

pub returns-clause-parts : goal.returns-clause-parts
returns-clause-parts c = IfOk-weaker c.beside.result _ _ (λ kept told. made_holds c.kept_parts.result kept.1 _ told.1 c.kept_parts.ensures.parts) c.beside.ensures

pub returns-clause-kinds : goal.returns-clause-kinds
returns-clause-kinds c = IfOk-weaker c.beside.result _ _ (λ kept told. made_holds c.kept_parts.result kept.1 _ told.1 c.kept_parts.ensures.kinds) c.beside.ensures
