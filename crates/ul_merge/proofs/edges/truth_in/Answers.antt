use Rattle.std.proofs.lemmas.Result.{IfOk-weaker}
use Rattle.ul_interner.proofs.ForCallers.{knows_then}
use Rattle.ul_region.proofs.ForCallers.{is_region, truth_still}
use Rattle.ul_merge.proofs.EdgeFacts.{both_truth, regions_still}
use Rattle.ul_merge.proofs.edges.truth_in.Goals as goal

pub union_of-requires-2 : goal.union_of-requires-2
union_of-requires-2 g c = regions_still _ _ _ c.in_ok-region.ensures.knows c.requires.truths

pub returns-in_err-truth-clause-knows : goal.returns-in_err-truth-clause-knows
returns-in_err-truth-clause-knows g c = knows_then _ _ _ c.in_ok-region.ensures.knows c.in_err-truth.ensures.knows

pub part_in-requires-clause-region : goal.part_in-requires-clause-region
part_in-requires-clause-region g c = truth_still _ _ _ _ c.in_ok-truth.ensures.knows (is_region _ _ _ c.in_ok-region.ensures.truth)

pub part_in-requires-clause-truth : goal.part_in-requires-clause-truth
part_in-requires-clause-truth g c = is_region _ _ _ c.in_ok-truth.ensures.truth

pub returns-clause-knows : goal.returns-clause-knows
returns-clause-knows g c = knows_then _ _ _ (knows_then _ _ _ c.in_ok-region.ensures.knows c.in_ok-truth.ensures.knows) c.part_in.ensures.knows

pub returns-clause-truth : goal.returns-clause-truth
returns-clause-truth g c = IfOk-weaker c.part_in.result _ _ (λ d t. both_truth _ _ _ _ _ d _ _ c.in_ok-region.ensures.truth c.in_ok-truth.ensures.truth t) c.part_in.ensures.truth
