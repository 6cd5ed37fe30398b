use Rattle.std.proofs.Common.{◌<◌, ap, sym, arith, subst}
use Rattle.ul_nodes.specs.Apply.{size}
use Rattle.ul_nodes.specs.Plain.{Plain}
use Rattle.ul_nodes.specs.Reduced.{IsReduced}
use Rattle.ul_tree.specs.Paths.{paths_in}
use Rattle.ul_tree.specs.Views.{tree_view}
use Rattle.ul_nodes.specs.Keys.{branches_of}
use Rattle.ul_nodes.proofs.ForCallers.{rest_reduced, part_reduced, from_end}
use Rattle.ul_tree.proofs.Compared.{size_rest, size_part, is_node}
use Rattle.ul_tree.proofs.truth.+paths.Goals as goal

pub paths-requires : goal.paths-requires
paths-requires t c =
    let a = tree_view c.args.tree.now in
    let m = size_part a _ _ _ c.loop-index.index c.branch_at.ensures.found in
    let d = c.decreases in
    (omega (arith, m, d), part_reduced a _ _ _ c.loop-index.index c.requires c.branch_at.ensures.found)

pub returns : goal.returns
returns t c =
    let bs = branches_of (tree_view c.args.tree.now) in
    let p = ap paths_in (from_end bs c.loop-index.index (omega (arith, c.branch_count-index-end.ensures))) in
    let l = c.loop-index.invariant.left in
    let b = c.loop-index.invariant.bounded in
    omega (arith, p, l, b)

pub paths-count-requires : goal.paths-count-requires
paths-count-requires t c =
    let a = tree_view c.args.tree.now in
    let n = is_node c.level_of.result a c.if-is_none.ensures c.level_of.ensures in
    let m : size (tree_view c.rest_of.result.now) < size a = rw c.rest_of.ensures (size_rest a n) in
    let d = c.decreases in
    (omega (arith, m, d), subst (λ (z : Plain). IsReduced z) (sym c.rest_of.ensures) (rest_reduced a c.requires))
