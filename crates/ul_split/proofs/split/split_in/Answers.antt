use Rattle.std.proofs.Common.{map}
use Rattle.ul_index.specs.Catalogs.{is_release_fit}
use Rattle.ul_region.specs.Truths.{region_at}
use Rattle.ul_region.proofs.ForCallers.{read_at}
use Rattle.ul_split.specs.Answers.{decided_of}
use Rattle.ul_split.proofs.Found.{unfit_found, chosen_listed, fit_within, fits_none, split_by_fit, split_by_group}
use Rattle.ul_split.proofs.split.split_in.Goals as goal

pub fit_of-requires : goal.fit_of-requires
fit_of-requires c = let found = unfit_found (region_at c.args.place.now.region.now) c.args.chosen.now (map decided_of c.args.chosen.now) c.first_unfit.result c.in-Some.one c.in-Some.is c.first_unfit.ensures in
    fit_within c.args.algebra.now c.args.place.now.truths.now c.in-Some.one.now (chosen_listed c.args.algebra.now c.args.place.now.truths.now c.args.chosen.now c.in-Some.one.now c.requires.chosen found.0)

pub returns-in-Some : goal.returns-in-Some
returns-in-Some c = let found = unfit_found (region_at c.args.place.now.region.now) c.args.chosen.now (map decided_of c.args.chosen.now) c.first_unfit.result c.in-Some.one c.in-Some.is c.first_unfit.ensures in
    split_by_fit c.args.algebra.now (region_at c.args.place.now.region.now) (map decided_of c.args.chosen.now) (decided_of c.in-Some.one.now) c.in_ok-truth.truth found.1
    (read_at c.args.algebra.now c.args.place.now.truths.now c.in-Some.one.now.row.now.fit c.in_ok-truth.truth (is_release_fit c.in-Some.one.now.row.now.release.now)
    (chosen_listed c.args.algebra.now c.args.place.now.truths.now c.args.chosen.now c.in-Some.one.now c.requires.chosen found.0).fit c.in_ok-truth.ensures)

pub returns : goal.returns
returns c = split_by_group c.args.algebra.now (region_at c.args.place.now.region.now) c.args.chosen.now (map decided_of c.args.chosen.now) c.in_ok-found.found
    (fits_none (region_at c.args.place.now.region.now) c.args.chosen.now (map decided_of c.args.chosen.now) c.first_unfit.result c.in_default.is c.first_unfit.ensures) c.in_ok-found.ensures
