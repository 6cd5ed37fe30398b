use Rattle.ul_index.specs.Catalogs.{is_release_fit}
use Rattle.ul_region.proofs.TruthFacts.{all_still}
use Rattle.ul_region.proofs.RowFacts.{grown_knows, truth_there}
use Rattle.ul_region.proofs.asking.fit_at.Goals as goal

pub returns-in_err-fit-clause-grown : goal.returns-in_err-fit-clause-grown
returns-in_err-fit-clause-grown g c = grown_knows _ _ c.args.truths.now.marks.items c.in_err-fit.ensures.knows c.requires

pub put-requires-clause-marks : goal.put-requires-clause-marks
put-requires-clause-marks g c = all_still _ _ c.args.truths.now.marks.items c.in_ok-fit.ensures.knows c.requires

pub returns-clause-fit : goal.returns-clause-fit
returns-clause-fit g c = truth_there c.fit_truth.new.algebra c.put.new.self.marks.items c.in_ok-place.place c.in_ok-fit.fit (is_release_fit c.args.release.now) c.in_ok-place.ensures.there c.in_ok-place.ensures.marks c.in_ok-fit.ensures.truth.truth
