use Rattle.std.proofs.Common.{sym, ◌∙◌}
use Rattle.ul_interner.proofs.ForCallers.{knows_itself, knows_then}
use Rattle.ul_nodes.specs.Keys.{level_view}
use Rattle.ul_tree.proofs.ForCallers.{has_own_levels, lowers_itself, lowers_union, union_has_levels, union_leaves_fewer}
use Rattle.ul_algebra.specs.Spelled.{tree_of}
use Rattle.ul_algebra.proofs.simplify.lowered.Goals as goal

pub loop-alloc-init : goal.loop-alloc-init
loop-alloc-init g c =
    let l = level_view c.args.level in
    let r = tree_of c.args.region.now in
    record {
      knows = knows_itself c.union.new.algebra;
      known = c.in_ok-made.ensures.diagram.known;
      lowers = lowers_union l r r (tree_of c.in_ok-made.made) (lowers_itself l r c.requires.region.reduced c.requires.not_false) (sym c.is_above.ensures ∙ c.if-not-is_above.false) c.in_ok-made.ensures.tree;
      levels = union_has_levels r r (tree_of c.in_ok-made.made) (has_own_levels r) c.in_ok-made.ensures.tree;
    }

pub returns-in_err-made-2-clause-knows : goal.returns-in_err-made-2-clause-knows
returns-in_err-made-2-clause-knows g c = knows_then _ _ _ c.in_ok-made.ensures.knows (knows_then _ _ _ c.loop-alloc.invariant.knows c.in_err-made-2.ensures.knows)

pub loop-alloc-preserved : goal.loop-alloc-preserved
loop-alloc-preserved g c =
    let l = level_view c.args.level in
    let r = tree_of c.args.region.now in
    record {
      knows = knows_then _ _ _ c.loop-alloc.invariant.knows c.in_ok-made-2.ensures.knows;
      known = c.in_ok-made-2.ensures.diagram.known;
      lowers = lowers_union l r (tree_of c.loop-alloc.made) (tree_of c.in_ok-made-2.made) c.loop-alloc.invariant.lowers (sym c.is_above-in-loop-alloc.ensures ∙ c.loop-alloc-test.true) c.in_ok-made-2.ensures.tree;
      levels = union_has_levels r (tree_of c.loop-alloc.made) (tree_of c.in_ok-made-2.made) c.loop-alloc.invariant.levels c.in_ok-made-2.ensures.tree;
    }

pub loop-alloc-smaller : goal.loop-alloc-smaller
loop-alloc-smaller g c =
    union_leaves_fewer (level_view c.args.level) (tree_of c.args.region.now) (tree_of c.loop-alloc.made) (tree_of c.in_ok-made-2.made)
    c.loop-alloc.invariant.lowers.reduced c.loop-alloc.invariant.levels (sym c.is_above-in-loop-alloc.ensures ∙ c.loop-alloc-test.true) c.in_ok-made-2.ensures.tree

pub returns-clause-knows : goal.returns-clause-knows
returns-clause-knows g c = knows_then _ _ _ c.in_ok-made.ensures.knows c.loop-alloc.invariant.knows

pub returns-clause-lowered : goal.returns-clause-lowered
returns-clause-lowered g c = record { lowers = c.loop-alloc.invariant.lowers; not_above = sym c.is_above-in-loop-alloc.ensures ∙ c.loop-alloc-test.false }
