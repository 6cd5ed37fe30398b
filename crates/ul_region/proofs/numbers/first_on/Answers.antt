use Rattle.std.proofs.Common.{sym, ◌∙◌}
use Rattle.ul_region.specs.Numbers.{fields_in}
use Rattle.ul_region.proofs.Lent.{lent_at, lent_below, lent_end, lent_size}
use Rattle.ul_region.proofs.NameNumbers.{first_here, not_yet, nowhere_at_end}
use Rattle.ul_region.proofs.numbers.first_on.Goals as goal

pub returns-then-is_on : goal.returns-then-is_on
returns-then-is_on c = let rs = c.args.requirements.now in let one = c.index-requirements-place.result in
    first_here c.args.name.now (fields_in rs) c.loop-place.place one.now (lent_below rs c.loop-place.place c.loop-place-test.true) (lent_at rs c.loop-place.place one c.loop-place-test.true c.index-requirements-place.is)
    c.loop-place.invariant (sym c.is_on.ensures ∙ c.if-is_on.true)

pub loop-place-preserved : goal.loop-place-preserved
loop-place-preserved c = let rs = c.args.requirements.now in let one = c.index-requirements-place.result in
    not_yet c.args.name.now (fields_in rs) c.loop-place.place one.now (lent_below rs c.loop-place.place c.loop-place-test.true) (lent_at rs c.loop-place.place one c.loop-place-test.true c.index-requirements-place.is)
    c.loop-place.invariant (sym c.is_on.ensures ∙ c.if-is_on.false)

pub returns : goal.returns
returns c = let rs = c.args.requirements.now in
    sym (lent_size rs) ∙ nowhere_at_end c.args.name.now (fields_in rs) c.loop-place.place (lent_end rs c.loop-place.place c.loop-place-test.false) c.loop-place.invariant
