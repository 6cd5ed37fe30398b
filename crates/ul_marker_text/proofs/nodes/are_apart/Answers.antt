use Rattle.std.proofs.Common.{ap, sym, ◌∙◌, subst, Some, ◌+◌, drop}
use Rattle.ul_tree.specs.Joins.{trees_made}
use Rattle.ul_nodes.specs.Keys.{key_view}
use Rattle.ul_nodes.specs.Plain.{Plain, carried_part}
use Rattle.ul_nodes.specs.Reduced.{IsReduced}
use Rattle.ul_tree.specs.Views.{tree_view}
use Rattle.ul_marker_text.specs.Nodes.{are_apart}
use Rattle.ul_marker_text.proofs.NodeCode.{entry_reduced, apart_step}
use Rattle.ul_marker_text.proofs.nodes.are_apart.Goals as goal
use Rattle.ul_marker_text.proofs.nodes.are_apart.Goals.{then-carried, else-carried}

pub same-requires-clause-left_reduced : goal.same-requires-clause-left_reduced
same-requires-clause-left_reduced c = entry_reduced c.args.made.now c.loop-entry.entry-index c.entry-item.result c.loop-entry-test.true c.entry-item.is c.requires.made_reduced

pub loop-entry-preserved : goal.loop-entry-preserved
loop-entry-preserved c =
    let x = c.entry-item.result in
    let rest = trees_made (drop (c.loop-entry.entry-index + 1) c.args.made.now) in
    let k = key_view x.0 in
    let step = apart_step c.args.made.now c.loop-entry.entry-index x _ c.args.carried (tree_view c.loop-entry.standing.now) c.loop-entry-test.true c.entry-item.is
    (sym c.is_after_key.ensures ∙ c.if-not-is_after_key.false) (sym c.same.ensures ∙ c.if-same.false) in
    elim c.if-carried.branch [
      | then-carried w ↦ record {
        standing = subst (λ (z : Plain). IsReduced z) (sym (ap (λ z. tree_view z.now) w.standing-is)) (entry_reduced c.args.made.now c.loop-entry.entry-index x c.loop-entry-test.true c.entry-item.is c.requires.made_reduced);
        left = ap (λ z. are_apart (Some k) c.args.carried z rest) (ap (λ z. tree_view z.now) w.standing-is ∙ sym (ap (λ b. carried_part b (tree_view x.1) (tree_view c.loop-entry.standing.now)) w.if-carried.true)) ∙ sym step ∙ c.loop-entry.invariant.left;
      }
      | else-carried w ↦ record {
        standing = subst (λ (z : Plain). IsReduced z) (sym (ap (λ z. tree_view z.now) w.standing-is)) c.loop-entry.invariant.standing;
        left = ap (λ z. are_apart (Some k) c.args.carried z rest) (ap (λ z. tree_view z.now) w.standing-is ∙ sym (ap (λ b. carried_part b (tree_view x.1) (tree_view c.loop-entry.standing.now)) w.if-carried.false)) ∙ sym step ∙ c.loop-entry.invariant.left;
      }
    ]
