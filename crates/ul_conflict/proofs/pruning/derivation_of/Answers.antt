use Rattle.std.proofs.Common.{◌++◌, ap, subst, sym, List, [], ℕ, length, arith}
use Rattle.ul_problem.specs.Steps.{Accepts}
use Rattle.ul_problem.specs.declared.step.Step.{Step}
use Rattle.ul_conflict.specs.Pruned.{IsPruned}
use Rattle.ul_conflict.proofs.PrunedSteps.{pruned_accepted, pruned_none}
use Rattle.ul_conflict.proofs.pruning.derivation_of.Goals as goal

pub loop-init : goal.loop-init
loop-init c = record {
  pruned = subst (λ (l : List Step). IsPruned c.args.problem.now (c.args.held.now ++ c.args.learned.now) c.in_ok-marks.marks.items l c.in_ok-with_capacity.field-0.items) (sym c.new.ensures.items)
      (subst (λ (l : List ℕ). IsPruned c.args.problem.now (c.args.held.now ++ c.args.learned.now) c.in_ok-marks.marks.items [] l) (sym c.in_ok-with_capacity.ensures.items) (pruned_none c.args.problem.now (c.args.held.now ++ c.args.learned.now) c.in_ok-marks.marks.items));
  count = ap (λ (l : List ℕ). length l) c.in_ok-with_capacity.ensures.items;
}

pub returns : goal.returns
returns c = subst (Accepts c.args.problem.now) (sym c.of.ensures)
    (pruned_accepted c.args.problem.now (c.args.held.now ++ c.args.learned.now) c.in_ok-marks.marks.items c.loop.pruned.kept.items c.loop.pruned.numbers.items c.args.number c.in_ok-marks.ensures c.loop.invariant.pruned
    (let e = c.loop.invariant.count in let a = c.loop-test.false in let b = c.loop.auto.counter-end in omega arith) c.requires.closes)
