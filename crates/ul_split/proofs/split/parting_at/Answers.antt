use Rattle.ul_region.specs.Truths.{region_at}
use Rattle.ul_split.specs.Answers.{decided_of}
use Rattle.ul_split.proofs.Found.{parts_at, no_parts_at}
use Rattle.ul_split.proofs.split.parting_at.Goals as goal

pub parting-requires : goal.parting-requires
parting-requires c = record { place = c.requires.place; row = c.requires.one }

pub returns-in_default : goal.returns-in_default
returns-in_default c = no_parts_at c.args.algebra.now (region_at c.args.place.now.region.now) (decided_of c.args.one.now) c.parting.result c.in_default.is c.parting.ensures

pub returns : goal.returns
returns c = parts_at c.args.algebra.now (region_at c.args.place.now.region.now) (decided_of c.args.one.now) c.parting.result c.in-Some.truth c.in_ok-truth.truth c.in-Some.is c.in_ok-truth.ensures c.parting.ensures
