use Rattle.std.proofs.Common.{ap, map, ◌∙◌}
use Rattle.std.proofs.lemmas.List.{take_all}
use Rattle.ul_requirement.specs.Fields.{RequirementFields}
use Rattle.ul_region.specs.Numbers.{fields_in, first_on}
use Rattle.ul_region.proofs.Lent.{lent_below, lent_end}
use Rattle.ul_region.proofs.NameNumbers.{number_more, some_at}
use Rattle.ul_region.proofs.numbers.many_numbers.Goals as goal

pub loop-place-preserved : goal.loop-place-preserved
loop-place-preserved c =
    let rs = c.args.requirements.now in
    let i = c.loop-place.place in
    let l = lent_below rs i c.loop-place-test.true in
    let q = some_at (fields_in rs) i l in
    number_more (fields_in rs) i q.0 c.loop-place.numbers.items c.push.new.self.items c.next_number-number.result c.in_ok-push.ensures.items c.loop-place.invariant (c.next_number-number.ensures q.0 q.1) l q.1

pub returns : goal.returns
returns c = let rs = c.args.requirements.now in
    c.loop-place.invariant
    ∙ ap (map (λ (x : RequirementFields). first_on x.name (fields_in rs))) (take_all c.loop-place.place (fields_in rs) (lent_end rs c.loop-place.place c.loop-place-test.false))
