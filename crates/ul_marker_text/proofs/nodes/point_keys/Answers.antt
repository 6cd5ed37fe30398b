use Rattle.std.proofs.Common.{ap, sym, subst, arith, List, ◌∙◌, ◌++◌, ◌∷◌, []}
use Rattle.std.specs.Prelude.{Option, Vec}
use Rattle.std.specs.declared.alloc.Global.{Global}
use Rattle.ul_base.proofs.ForCallers.{made_holds}
use Rattle.ul_nodes.specs.Keys.{level_view}
use Rattle.ul_nodes.specs.declared.level.Key.{Key}
use Rattle.ul_tree.specs.declared.tree.Tree.{Tree}
use Rattle.ul_marker_text.specs.NodeViews.{KeyAnswer, KeysAnswer}
use Rattle.ul_marker_text.specs.Nodes.{key_branches}
use Rattle.ul_marker_text.specs.StepViews.{comparison_key}
use Rattle.ul_marker_text.proofs.PartFacts.{KeysLeft, keys_more, keys_wrong, keys_end, no_points}
use Rattle.ul_marker_text.proofs.nodes.point_keys.Goals as goal

pub loop-comparison-preserved : goal.loop-comparison-preserved
loop-comparison-preserved c =
    let l = level_view c.args.level in
    let both = c.in_ok-tree.ensures in
    let asked = made_holds c.point_key.result c.in_ok-tree.key (λ o. KeyAnswer l (comparison_key c.in-Some.comparison) o) both.1 c.point_key.ensures in
    let told = c.in_ok-made-in-Some-key.ensures ∙ ap (λ t. c.loop-comparison.made.items ++ (c.in-Some-key.key, t) ∷ []) both.0 in
    subst (λ (z : List (Key × Tree)). KeysLeft l z (key_branches c.next.new.self.rest.items) (key_branches c.args.points.items)) (sym told)
    (keys_more l _ c.in-Some-key.key c.in-Some.tree c.loop-comparison.made.items _ _ _ (ap key_branches c.in-Some.ensures.steps.0)
    (subst (λ (o : Option Key). KeyAnswer l (comparison_key c.in-Some.comparison) o) c.in-Some-key.is asked) c.loop-comparison.invariant)

pub returns-in-None-key : goal.returns-in-None-key
returns-in-None-key c =
    let l = level_view c.args.level in
    let asked = made_holds c.point_key.result c.in_ok-tree.key (λ o. KeyAnswer l (comparison_key c.in-Some.comparison) o) c.in_ok-tree.ensures.1 c.point_key.ensures in
    let wrong = subst (λ (o : Option Key). KeyAnswer l (comparison_key c.in-Some.comparison) o) c.in-None-key.is asked in
    subst (λ (o : Option (Vec (Key × Tree) Global)). KeysAnswer l (key_branches c.args.points.items) o) (sym c.refused.ensures)
    (keys_wrong l _ _ c.loop-comparison.made.items _ _ _ (ap key_branches c.in-Some.ensures.steps.0) wrong c.loop-comparison.invariant)

pub returns : goal.returns
returns c =
    keys_end (level_view c.args.level) c.loop-comparison.made.items _ _ (no_points c.loop-comparison.comparison-iterator.rest.items (omega (arith, c.in-None.ensures.steps.0, c.loop-comparison.comparison-iterator.rest.ok))) c.loop-comparison.invariant
