use Rattle.ul_requirement.specs.Truth.{applies_at}
use Rattle.ul_region.proofs.TruthFacts.{all_still}
use Rattle.ul_region.proofs.RowFacts.{grown_knows, truth_there}
use Rattle.ul_region.proofs.asking.new_place.Goals as goal

pub returns-in_err-truth-clause-grown : goal.returns-in_err-truth-clause-grown
returns-in_err-truth-clause-grown g c = grown_knows _ _ c.args.truths.now.marks.items c.in_err-truth.ensures.knows c.requires

pub put-requires-clause-marks : goal.put-requires-clause-marks
put-requires-clause-marks g c = all_still _ _ c.args.truths.now.marks.items c.in_ok-truth.ensures.knows c.requires

pub returns-clause-truth : goal.returns-clause-truth
returns-clause-truth g c = truth_there c.truth_at.new.algebra c.put.new.self.marks.items c.in_ok-place.place c.in_ok-truth.truth (applies_at c.args.requirement.now c.args.node.now) c.in_ok-place.ensures.there c.in_ok-place.ensures.marks c.in_ok-truth.ensures.truth.truth
