use Rattle.std.proofs.Common.{◌≡◌, ◌<◌, ap, ◌∙◌, sym, subst}
use Rattle.ul_nodes.specs.Plain.{Plain}
use Rattle.ul_nodes.specs.Apply.{size, part_at}
use Rattle.ul_nodes.specs.Reduced.{IsReduced}
use Rattle.ul_tree.specs.Values.{value_of, tree_holds}
use Rattle.ul_tree.specs.Views.{tree_view}
use Rattle.ul_nodes.specs.Keys.{level_view}
use Rattle.ul_tree.proofs.Steps.{part_at_reduced, part_smaller, part_holds}
use Rattle.ul_tree.proofs.truth.holds.Goals as goal
use Rattle.ul_tree.proofs.truth.holds.Goals.{After-part_at-tree}

-- the part that is gone on with
part_is : (c : After-part_at-tree) → tree_view c.part_at-tree.result.now ≡ part_at (level_view c.in-Some.level) (value_of c.args.world.now c.args.extra.now (level_view c.in-Some.level)) (tree_view c.loop-level.tree.now)
part_is c = c.part_at-tree.ensures.part ∙ ap (λ v. part_at (level_view c.in-Some.level) v (tree_view c.loop-level.tree.now)) c.value_at.ensures

pub loop-level-smaller : goal.loop-level-smaller
loop-level-smaller c =
    let t = tree_view c.loop-level.tree.now in
    let l = level_view c.in-Some.level in
    subst (λ (z : Plain). size z < size t) (sym (part_is c)) (part_smaller l (value_of c.args.world.now c.args.extra.now l) t c.in-Some.ensures)

pub loop-level-preserved : goal.loop-level-preserved
loop-level-preserved c =
    let t = tree_view c.loop-level.tree.now in
    let l = level_view c.in-Some.level in
    let f = value_of c.args.world.now c.args.extra.now in
    record {
      reduced = subst (λ (z : Plain). IsReduced z) (sym (part_is c)) (part_at_reduced l (f l) t c.loop-level.invariant.reduced);
      same = ap (λ z. tree_holds z c.args.world.now c.args.extra.now) (part_is c) ∙ part_holds l t f c.loop-level.invariant.reduced c.in-Some.ensures ∙ c.loop-level.invariant.same;
    }
