use Rattle.std.proofs.Common.{◌≢◌, ap, sym, ◌∙◌, arith, ℕ, ◌<◌, subst, None, add-one, is_eq}
use Rattle.ul_nodes.specs.Plain.{Plain, done}
use Rattle.ul_nodes.specs.Reduced.{IsReduced}
use Rattle.ul_nodes.specs.Apply.{size, sames as sames_plain}
use Rattle.ul_tree.specs.Views.{tree_view}
use Rattle.ul_nodes.specs.Keys.{top_of, branches_of, branches_from}
use Rattle.ul_nodes.proofs.ForCallers.{rest_reduced, part_reduced, from_end}
use Rattle.ul_tree.proofs.Compared.{size_rest, size_part, tops_differ, nodes_same, counts_differ, next_same, both_ends, both_goes, is_node}
use Rattle.ul_tree.proofs.copy.+same.Goals as goal
use Rattle.ul_tree.proofs.copy.+same.Goals.{Else-is_none}

pub returns-then-not-same_top : goal.returns-then-not-same_top
returns-then-not-same_top t c = sym (tops_differ (tree_view c.args.left.now) (tree_view c.args.right.now) (sym c.if-not-same_top.ensures))

-- both trees are nodes of one level
a_is_node : (t : ℕ) (c : Else-is_none t) → top_of (tree_view c.args.left.now) ≢ None
a_is_node t c = is_node c.level_of.result (tree_view c.args.left.now) c.if-is_none.ensures c.level_of.ensures

pub returns-then-branch_count : goal.returns-then-branch_count
returns-then-branch_count t c =
    let a = tree_view c.args.left.now in
    let b = tree_view c.args.right.now in
    let n = a_is_node t (goal.at.returns-then-branch_count t c).Else-is_none in
    sym (counts_differ a b n (sym c.if-not-same_top.ensures) (λ q. c.if-branch_count.true (c.branch_count.ensures ∙ q ∙ sym c.branch_count-2.ensures)))

pub same-requires : goal.same-requires
same-requires t c =
    let a = tree_view c.args.left.now in
    let b = tree_view c.args.right.now in
    let n = a_is_node t (goal.at.same-requires t c).Else-is_none in
    let m : size (tree_view c.rest_of.result.now) < size a = rw c.rest_of.ensures (size_rest a n) in
    let d = c.decreases in (
      omega (arith, m, d),
      (subst (λ (z : Plain). IsReduced z) (sym c.rest_of.ensures) (rest_reduced a c.requires.left_reduced), subst (λ (z : Plain). IsReduced z) (sym c.rest_of-2.ensures) (rest_reduced b c.requires.right_reduced)),
    )

pub loop-index-init : goal.loop-index-init
loop-index-init t c =
    let a = tree_view c.args.left.now in
    let b = tree_view c.args.right.now in
    let n = a_is_node t (goal.at.loop-index-init t c).Else-is_none in
    nodes_same a b n (sym c.if-not-same_top.ensures) ∙ both_goes _ _ (rw (c.rest_of.ensures, c.rest_of-2.ensures) at (sym c.if-not-same.ensures))

pub returns-then-not-is_eq : goal.returns-then-not-is_eq
returns-then-not-is_eq t c =
    let bs = branches_of (tree_view c.args.left.now) in
    let cs = branches_of (tree_view c.args.right.now) in
    let i = c.loop-index.index in
    let s = next_same (branches_from i bs) (branches_from i cs) _ _ _ _ _ _ c.branch_at-one.ensures.found c.branch_at-other.ensures.found in
    sym (c.loop-index.invariant ∙ s ∙ both_ends _ _ (sym (c.if-not-is_eq.ensures ∙ ap is_eq c.cmp.ensures)))

pub same-requires-in-loop-index : goal.same-requires-in-loop-index
same-requires-in-loop-index t c =
    let a = tree_view c.args.left.now in
    let b = tree_view c.args.right.now in
    let m = size_part a _ _ _ c.loop-index.index c.branch_at-one.ensures.found in
    let d = c.decreases in
    (omega (arith, m, d), (part_reduced a _ _ _ c.loop-index.index c.requires.left_reduced c.branch_at-one.ensures.found, part_reduced b _ _ _ c.loop-index.index c.requires.right_reduced c.branch_at-other.ensures.found))

pub loop-index-preserved : goal.loop-index-preserved
loop-index-preserved t c =
    let bs = branches_of (tree_view c.args.left.now) in
    let cs = branches_of (tree_view c.args.right.now) in
    let i = c.loop-index.index in
    let s = next_same (branches_from i bs) (branches_from i cs) _ _ _ _ _ _ c.branch_at-one.ensures.found c.branch_at-other.ensures.found in
    c.loop-index.invariant ∙ s ∙ both_goes _ _ (sym (c.if-not-is_eq.ensures ∙ ap is_eq c.cmp.ensures)) ∙ both_goes _ _ (sym c.if-not-same-2.ensures)
    ∙ ap (λ j. sames_plain (branches_from j bs) (branches_from j cs)) (sym (add-one i))

pub returns : goal.returns
returns t c =
    let bs = branches_of (tree_view c.args.left.now) in
    let cs = branches_of (tree_view c.args.right.now) in
    let i = c.loop-index.index in
    let p = from_end bs i (omega (arith, c.branch_count-index-end.ensures)) in
    let q = from_end cs i (omega (arith, c.branch_count-index-end.ensures, c.branch_count.ensures, c.branch_count-2.ensures, c.if-branch_count.false)) in
    sym (c.loop-index.invariant ∙ ap (λ z. sames_plain z (branches_from i cs)) p ∙ ap (sames_plain done) q)
