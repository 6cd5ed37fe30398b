use Rattle.ul_region.specs.Numbers.{fields_in}
use Rattle.ul_region.proofs.Lent.{lent_end}
use Rattle.ul_region.proofs.NameNumbers.{places_whole}
use Rattle.ul_region.proofs.numbers.first_places.Goals as goal

pub returns : goal.returns
returns c n = let rs = c.args.requirements.now in places_whole (fields_in rs) c.loop-place.place n _ (lent_end rs c.loop-place.place c.loop-place-test.false) (c.loop-place.invariant n)
