use Rattle.std.proofs.Common.{◌∙◌, ap, bytes_eq}
use Rattle.std.specs.HashMap.{get}
use Rattle.ul_requirement.specs.Fields.{RequirementFields}
use Rattle.ul_region.specs.Numbers.{fields_in, or_zero}
use Rattle.ul_region.proofs.Lent.{lent_at, lent_below}
use Rattle.ul_region.proofs.NameNumbers.{kept_number, repeated_number, same_there}
use Rattle.ul_region.proofs.numbers.next_number.Goals as goal

pub returns-then-repeats_name : goal.returns-then-repeats_name
returns-then-repeats_name c =
    repeated_number (fields_in c.args.requirements.now) c.args.place c.args.numbers.now c.requires.numbers (c.repeats_name.ensures c.if-repeats_name.true)

pub returns : goal.returns
returns c q at =
    let rs = c.args.requirements.now in
    let one = c.index-requirements-place.result in
    let below = lent_below rs c.args.place c.requires.place in
    let here = lent_at rs c.args.place one c.requires.place c.index-requirements-place.is in
    kept_number (fields_in rs) c.args.places.now c.args.place q c.place_in.result c.requires.places below at
    (c.place_in.ensures ∙ ap (λ (x : RequirementFields). or_zero (get bytes_eq c.args.places.now x.name)) (same_there (fields_in rs) c.args.place one.now q below here at))
