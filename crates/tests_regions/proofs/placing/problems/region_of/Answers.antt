use Rattle.ul_region.proofs.ForCallers.{is_region}
use Rattle.tests_regions.proofs.placing.problems.region_of.Goals as goal

pub returns : goal.returns
returns g c = is_region _ c.in_ok-region.region _ c.in_ok-region.ensures.truth
