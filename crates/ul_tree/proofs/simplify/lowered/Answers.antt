use Rattle.std.proofs.Common.{sym, ◌∙◌}
use Rattle.ul_tree.specs.Views.{tree_view}
use Rattle.ul_nodes.specs.Keys.{level_view}
use Rattle.ul_tree.proofs.LevelsLeft.{has_own_levels, union_has_levels, union_leaves_fewer}
use Rattle.ul_tree.proofs.Lowering.{lowers_itself, lowers_union}
use Rattle.ul_tree.proofs.simplify.lowered.Goals as goal

pub loop-alloc-init : goal.loop-alloc-init
loop-alloc-init c =
    let l = level_view c.args.level in
    let r = tree_view c.args.region.now in record {
      lowers = lowers_union l r r (tree_view c.in_ok-made.made) (lowers_itself l r c.requires.reduced c.requires.not_false) (sym c.is_above.ensures ∙ c.if-not-is_above.false) c.in_ok-made.ensures;
      levels = union_has_levels r r (tree_view c.in_ok-made.made) (has_own_levels r) c.in_ok-made.ensures;
    }

pub loop-alloc-preserved : goal.loop-alloc-preserved
loop-alloc-preserved c =
    let l = level_view c.args.level in
    let r = tree_view c.args.region.now in record {
      lowers = lowers_union l r (tree_view c.loop-alloc.made) (tree_view c.in_ok-made-2.made) c.loop-alloc.invariant.lowers (sym c.is_above-in-loop-alloc.ensures ∙ c.loop-alloc-test.true) c.in_ok-made-2.ensures;
      levels = union_has_levels r (tree_view c.loop-alloc.made) (tree_view c.in_ok-made-2.made) c.loop-alloc.invariant.levels c.in_ok-made-2.ensures;
    }

pub loop-alloc-smaller : goal.loop-alloc-smaller
loop-alloc-smaller c =
    union_leaves_fewer (level_view c.args.level) (tree_view c.args.region.now) (tree_view c.loop-alloc.made) (tree_view c.in_ok-made-2.made)
    c.loop-alloc.invariant.lowers.reduced c.loop-alloc.invariant.levels (sym c.is_above-in-loop-alloc.ensures ∙ c.loop-alloc-test.true) c.in_ok-made-2.ensures

pub returns : goal.returns
returns c = record { lowers = c.loop-alloc.invariant.lowers; not_above = sym c.is_above-in-loop-alloc.ensures ∙ c.loop-alloc-test.false }
