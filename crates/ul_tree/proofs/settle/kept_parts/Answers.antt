use Rattle.std.proofs.Common.{◌++◌, ◌∷◌, [], ap, sym, ◌∙◌}
use Rattle.ul_base.proofs.ForCallers.{made_holds}
use Rattle.std.specs.Option.{option_map}
use Rattle.ul_tree.specs.Views.{tree_view}
use Rattle.ul_nodes.specs.Keys.{key_view}
use Rattle.ul_nodes.specs.Rows.{own_or, results_view, parts_view, last_part}
use Rattle.ul_tree.specs.SimplifyViews.{kept_results}
use Rattle.ul_nodes.proofs.ForCallers.{part_viewed, next_kind}
use Rattle.ul_tree.proofs.PiecesInCode.{kinds_step}
use Rattle.ul_tree.proofs.KeptParts.{kept_less, kept_step}
use Rattle.ul_tree.proofs.settle.kept_parts.Goals as goal

pub loop-key-preserved-then-is_left_out : goal.loop-key-preserved-then-is_left_out
loop-key-preserved-then-is_left_out c =
    let m = c.args.carried in
    let xs = c.loop-key.parts.items in
    let rest = c.next.new.self.rest.items in
    let z = last_part (parts_view tree_view xs) (tree_view c.args.first.now) in
    record {
      left = ap (λ ys. parts_view tree_view xs ++ ys) (sym (kept_less m (key_view c.in-Some.key) (option_map tree_view c.in-Some.own) (results_view tree_view rest) z (sym c.is_left_out.ensures ∙ c.if-is_left_out.true)))
          ∙ ap (λ ys. parts_view tree_view xs ++ kept_results m (results_view tree_view ys) z) (sym c.in-Some.ensures.steps.0)
          ∙ c.loop-key.invariant.left;
      kinds = λ l h.
          let k = c.loop-key.invariant.kinds l h in
          (k.0, (next_kind l (c.in-Some.key, c.in-Some.own) c.loop-key.key-iterator.rest.items rest c.in-Some.ensures.steps.0 k.1).1);
    }

pub loop-key-preserved : goal.loop-key-preserved
loop-key-preserved c =
    let m = c.args.carried in
    let xs = c.loop-key.parts.items in
    let rest = c.next.new.self.rest.items in
    let z = tree_view c.args.first.now in
    let own = option_map tree_view c.in-Some.own in
    let more = c.in_ok-parts.ensures in
    let one = more.0 in
    let pair = made_holds c.beside.result one _ more.1 c.beside.ensures in
    let part = made_holds c.kept_or_copied-part.result one.1 _ pair.1 c.kept_or_copied-part.ensures in
    let is = more.2 ∙ ap (λ k. xs ++ (k, one.1) ∷ []) pair.0 in
    record {
      left = ap (λ ys. parts_view tree_view ys ++ kept_results m (results_view tree_view rest) (last_part (parts_view tree_view ys) z)) is
          ∙ kept_step tree_view m xs (c.in-Some.key, one.1) own (results_view tree_view rest) z (sym c.is_left_out.ensures ∙ c.if-is_left_out.false)
          (part ∙ ap (own_or own) (ap tree_view c.last_part.ensures ∙ part_viewed tree_view c.deref.result.now c.args.first.now ∙ ap (λ ys. last_part (parts_view tree_view ys) z) c.deref.ensures.value))
          ∙ ap (λ ys. parts_view tree_view xs ++ kept_results m (results_view tree_view ys) (last_part (parts_view tree_view xs) z)) (sym c.in-Some.ensures.steps.0)
          ∙ c.loop-key.invariant.left;
      kinds = λ l h. kinds_step l (c.in-Some.key, c.in-Some.own) one.1 xs c.in_ok-parts.parts.items c.loop-key.key-iterator.rest.items rest c.in-Some.ensures.steps.0 is (c.loop-key.invariant.kinds l h);
    }
