use Rattle.std.proofs.Common.{List, [], map, take, sym, subst, arith}
use Rattle.std.specs.Prelude.{flat_map}
use Rattle.ul_interner.proofs.ForCallers.{knows_itself, knows_then}
use Rattle.ul_algebra.specs.Spelled.{tree_of}
use Rattle.ul_base.proofs.ForCallers.{made_holds}
use Rattle.ul_merge.specs.Views.{ForkLeaf, leaf_of}
use Rattle.ul_region.proofs.ForCallers.{still, truth_still}
use Rattle.ul_sound.specs.Merged.{AreSimplified}
use Rattle.ul_lock_write.specs.Markers.{fork_marker}
use Rattle.ul_merge.specs.Over.{OrOver}
use Rattle.ul_merge.specs.Unions.{IsForkIn}
use Rattle.ul_merge.proofs.ForkSteps.{few_over, fork_over}
use Rattle.ul_merge.proofs.OverFacts.{or_over}
use Rattle.ul_merge.proofs.Walks.{of_all}
use Rattle.ul_merge.proofs.forks.regions_of.Goals as goal

pub simplified-region-requires-clause-truth : goal.simplified-region-requires-clause-truth
simplified-region-requires-clause-truth g c = truth_still _ _ _ _ c.loop-leaf.invariant.knows
    (subst (λ (l : ForkLeaf). IsForkIn c.args.algebra.now c.args.supported.now l) (sym c.leaf-item.is) (c.requires.leaves c.loop-leaf.leaf-index c.leaf-item.result c.loop-leaf-test.true)).0

pub simplified-region-requires-clause-supported : goal.simplified-region-requires-clause-supported
simplified-region-requires-clause-supported g c = still _ _ _ c.loop-leaf.invariant.knows c.requires.supported

pub returns-in_err-regions-clause-knows : goal.returns-in_err-regions-clause-knows
returns-in_err-regions-clause-knows g c = knows_then _ _ _ c.loop-leaf.invariant.knows c.simplified-region.ensures.knows

pub loop-leaf-preserved : goal.loop-leaf-preserved
loop-leaf-preserved g c = let more = c.in_ok-regions.ensures in record {
  knows = knows_then _ _ _ c.loop-leaf.invariant.knows c.simplified-region.ensures.knows;
  forks = fork_over (tree_of c.args.supported.now) c.args.leaves.now c.loop-leaf.leaf-index c.leaf-item.result _ _ more.0 c.loop-leaf-test.true c.leaf-item.is c.loop-leaf.invariant.forks
      (made_holds c.simplified-region.result more.0 _ more.1 c.simplified-region.ensures.rule) more.2;
}

pub loop-leaf-init : goal.loop-leaf-init
loop-leaf-init g c = record {
  knows = knows_itself _;
  forks = few_over (tree_of c.args.supported.now) [] _ (omega arith) c.in_ok-with_capacity.ensures.items;
}

pub returns-clause-knows : goal.returns-clause-knows
returns-clause-knows g c = c.loop-leaf.invariant.knows

pub returns-clause-forks : goal.returns-clause-forks
returns-clause-forks g c =
    let Are = λ (ls : List ForkLeaf). AreSimplified (tree_of c.args.supported.now) (map leaf_of ls) in
    let all = c.args.leaves.now in
    subst (OrOver (flat_map fork_marker) (Are all)) (sym c.regions_in.ensures)
    (or_over (flat_map fork_marker) (Are (take c.loop-leaf.leaf-index all)) (Are all) (λ ts k. of_all (λ (ls : List ForkLeaf). Are ls ts) all c.loop-leaf.leaf-index c.loop-leaf-test.false k) _ c.loop-leaf.invariant.forks)
