use Rattle.std.proofs.Common.{◌≡◌, ◌+◌, ◌-◌, ◌/◌, suc, ap, sym, ◌∙◌, arith, subst, Some, add-one}
use Rattle.ul_nodes.specs.Plain.{Branches, pick, carried_part}
use Rattle.ul_nodes.specs.Reduced.{StartsAfter}
use Rattle.ul_nodes.specs.Keys.{key_view, rest_of, branches_of, branches_from}
use Rattle.ul_nodes.proofs.Halves.{from_count, tree_past, tree_at, pick_before}
use Rattle.ul_nodes.proofs.nodes.part_of.Goals as goal

pub loop-low-init : goal.loop-low-init
loop-low-init g c =
    let t = g.Kind.Nodes.tree c.args.node.now in
    let v = key_view c.args.value in
    record {
      ordered = omega arith;
      within = omega (arith, c.branch_count-high.ensures);
      left = ap (pick (branches_of t) c.args.carried v) (sym c.rest_of-rest.ensures.part);
      above = subst (λ (z : Branches). StartsAfter (Some v) z) (sym (ap (λ i. branches_from i (branches_of t)) c.branch_count-high.ensures ∙ from_count (branches_of t))) tt;
      below = c.rest_of-rest.ensures.below;
    }

pub returns-in-Equal-clause-part : goal.returns-in-Equal-clause-part
returns-in-Equal-clause-part g c =
    let t = g.Kind.Nodes.tree c.args.node.now in
    sym (tree_at t (key_view c.args.value) _ c.args.carried _ (rest_of t) _ _ c.requires c.branch_at-branch.ensures.found (sym c.in-Equal.ensures))

pub loop-low-preserved-then-carried : goal.loop-low-preserved-then-carried
loop-low-preserved-then-carried g c =
    let t = g.Kind.Nodes.tree c.args.node.now in
    let v = key_view c.args.value in
    let middle = c.loop-low.low + (c.loop-low.high - c.loop-low.low) / 2 in
    let part = g.Kind.Nodes.tree c.branch_at-branch.result.part.now in
    let m = c.args.carried in
    record {
      ordered = omega arith;
      within = c.loop-low.invariant.within;
      left = tree_past t v _ m part (rest_of t) _ middle c.requires c.branch_at-branch.ensures.found (sym c.in-Greater.ensures)
          ∙ ap (λ b. pick (branches_from (suc middle) (branches_of t)) m v (carried_part b part (rest_of t))) c.if-carried.true
          ∙ ap (λ i. pick (branches_from i (branches_of t)) m v part) (sym (add-one middle));
      above = c.loop-low.invariant.above;
      below = c.branch_at-branch.ensures.below;
    }

pub loop-low-preserved : goal.loop-low-preserved
loop-low-preserved g c =
    let t = g.Kind.Nodes.tree c.args.node.now in
    let v = key_view c.args.value in
    let middle = c.loop-low.low + (c.loop-low.high - c.loop-low.low) / 2 in
    let part = g.Kind.Nodes.tree c.branch_at-branch.result.part.now in
    let m = c.args.carried in
    record {
      ordered = omega arith;
      within = c.loop-low.invariant.within;
      left = tree_past t v _ m part (rest_of t) _ middle c.requires c.branch_at-branch.ensures.found (sym c.in-Greater.ensures)
          ∙ ap (λ b. pick (branches_from (suc middle) (branches_of t)) m v (carried_part b part (rest_of t))) c.if-carried.false
          ∙ ap (pick (branches_from (suc middle) (branches_of t)) m v) (sym c.rest_of-rest.ensures.part)
          ∙ ap (λ i. pick (branches_from i (branches_of t)) m v (g.Kind.Nodes.tree c.rest_of-rest.result.now)) (sym (add-one middle));
      above = c.loop-low.invariant.above;
      below = c.rest_of-rest.ensures.below;
    }

pub returns-clause-part : goal.returns-clause-part
returns-clause-part g c =
    let t = g.Kind.Nodes.tree c.args.node.now in
    let v = key_view c.args.value in
    let e : c.loop-low.high ≡ c.loop-low.low = omega (arith, c.loop-low.invariant.ordered) in
    let s = subst (λ i. StartsAfter (Some v) (branches_from i (branches_of t))) e c.loop-low.invariant.above in
    sym (c.loop-low.invariant.left ∙ pick_before (branches_from c.loop-low.low (branches_of t)) v c.args.carried (g.Kind.Nodes.tree c.loop-low.found.now) s)
