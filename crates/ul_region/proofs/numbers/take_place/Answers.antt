use Rattle.ul_region.specs.Numbers.{fields_in}
use Rattle.ul_region.proofs.Lent.{lent_at, lent_below}
use Rattle.ul_region.proofs.NameNumbers.{place_next, place_repeated}
use Rattle.ul_region.proofs.numbers.take_place.Goals as goal

pub returns-then-repeats_name : goal.returns-then-repeats_name
returns-then-repeats_name c n =
    place_repeated (fields_in c.args.requirements.now) c.args.place n _ (c.repeats_name.ensures c.if-repeats_name.true) (c.requires.taken n)

pub returns : goal.returns
returns c n =
    let rs = c.args.requirements.now in
    let i = c.args.place in
    let one = c.index-requirements-place.result in
    let l = c.requires.place in
    place_next (fields_in rs) i one.now n _ _ (lent_below rs i l) (lent_at rs i one l c.index-requirements-place.is) (c.requires.taken n) (c.in_ok-keep_first.ensures n)
