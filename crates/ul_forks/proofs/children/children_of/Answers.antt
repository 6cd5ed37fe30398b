use Rattle.std.proofs.Common.{not}
use Rattle.ul_interner.proofs.ForCallers.{knows_then}
use Rattle.ul_region.proofs.ForCallers.{still}
use Rattle.ul_forks.proofs.Parts.{joined_truth, negated_truth}
use Rattle.ul_forks.proofs.children.children_of.Goals as goal

pub not-requires : goal.not-requires
not-requires g c = record { a = still _ _ c.args.truth.now c.and.ensures.knows c.requires.truth }

pub returns-in_err-other-clause-knows : goal.returns-in_err-other-clause-knows
returns-in_err-other-clause-knows g c = knows_then _ _ _ c.and.ensures.knows c.not.ensures.knows

pub and-requires-2-clause-a : goal.and-requires-2-clause-a
and-requires-2-clause-a g c = still _ _ c.args.region.now (knows_then _ _ _ c.and.ensures.knows c.not.ensures.knows) c.requires.region.diagram

pub returns-in_err-second-clause-knows : goal.returns-in_err-second-clause-knows
returns-in_err-second-clause-knows g c = knows_then _ _ _ (knows_then _ _ _ c.and.ensures.knows c.not.ensures.knows) c.and-2.ensures.knows

pub returns-clause-knows : goal.returns-clause-knows
returns-clause-knows g c = knows_then _ _ _ (knows_then _ _ _ c.and.ensures.knows c.not.ensures.knows) c.and-2.ensures.knows

pub returns-clause-parts : goal.returns-clause-parts
returns-clause-parts g c = λ p truth. (
  joined_truth c.and-2.new.self c.args.region.now c.args.truth.now c.in_ok-first.first p c.requires.region.truth truth
      (still _ _ c.in_ok-first.first (knows_then _ _ _ c.not.ensures.knows c.and-2.ensures.knows) c.in_ok-first.ensures.diagram) c.in_ok-first.ensures.truth,
  joined_truth c.and-2.new.self c.args.region.now c.in_ok-other.other c.in_ok-second.second (λ w. not (p w)) c.requires.region.truth
      (negated_truth c.not.new.self c.args.truth.now c.in_ok-other.other p truth c.in_ok-other.ensures.diagram c.in_ok-other.ensures.truth)
      c.in_ok-second.ensures.diagram c.in_ok-second.ensures.truth,
)
