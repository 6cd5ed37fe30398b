use Rattle.std.proofs.Common.{arith, sym, subst}
use Rattle.std.specs.Prelude.{All}
use Rattle.std.proofs.lemmas.List.Elements.{All-nil, All-push, All-same}
use Rattle.ul_tree.specs.TreeFacts.{IsTree}
use Rattle.ul_project.proofs.Regions.{left_here, left_next, truths_end, truths_next, truths_start}
use Rattle.ul_project.proofs.region.environment_trees.Goals as goal

pub loop-marker-init : goal.loop-marker-init
loop-marker-init c =
    let e = c.new-trees.ensures.items in
    record {
      left = c.requires;
      reduced = subst (All IsTree) (sym e) (All-nil IsTree);
      truth = λ w x is. truths_start c.args.environments.now c.new-trees.result.items w x e;
    }

pub environment_tree-requires : goal.environment_tree-requires
environment_tree-requires c =
    left_here c.args.environments.now c.loop-marker.marker-index c.marker-item.result c.loop-marker-test.true c.marker-item.is c.loop-marker.invariant.left

pub loop-marker-preserved : goal.loop-marker-preserved
loop-marker-preserved c =
    let i = c.loop-marker.marker-index in
    let ms = c.args.environments.now in
    let more = c.in_ok-trees.ensures in
    let reduced = rw more.1 at c.environment_tree.ensures.reduced in
    let truth = rw more.1 at c.environment_tree.ensures.truth in
    record {
      left = left_next ms i c.marker-item.result c.loop-marker-test.true c.loop-marker.invariant.left;
      reduced = All-same IsTree _ _ more.2 (All-push IsTree c.loop-marker.trees.items more.0 c.loop-marker.invariant.reduced reduced);
      truth = λ w x is. truths_next ms i c.marker-item.result c.loop-marker.trees.items _ more.0 w x c.loop-marker-test.true c.marker-item.is more.2
          (truth w x is) (c.loop-marker.invariant.truth w x is);
    }

pub returns-clause-reduced : goal.returns-clause-reduced
returns-clause-reduced c = c.loop-marker.invariant.reduced

pub returns-clause-truth : goal.returns-clause-truth
returns-clause-truth c w x is =
    truths_end c.args.environments.now c.loop-marker.marker-index c.loop-marker.trees.items w x (omega arith) (c.loop-marker.invariant.truth w x is)
