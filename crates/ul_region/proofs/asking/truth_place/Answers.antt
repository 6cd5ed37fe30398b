use Rattle.std.proofs.Common.{ℕ, Option, subst}
use Rattle.std.specs.Prelude.{IfSome}
use Rattle.ul_region.specs.Numbers.{fields_in}
use Rattle.ul_region.specs.Rows.{IsPlaceOfAlike}
use Rattle.ul_region.proofs.RowFacts.{alike_truth, grown_itself}
use Rattle.ul_region.proofs.asking.truth_place.Goals as goal

pub returns-in-Some-clause-grown : goal.returns-in-Some-clause-grown
returns-in-Some-clause-grown g c = grown_itself c.args.algebra.now c.args.truths.now.marks.items c.requires.truths

pub returns-in-Some-clause-truth : goal.returns-in-Some-clause-truth
returns-in-Some-clause-truth g c =
    let qs = fields_in c.args.requirements.now in
    let places = c.args.places.now in
    let q = c.args.requirement.now in
    alike_truth c.args.algebra.now c.args.node.now c.args.truths.now.marks.items qs places q c.in-Some.place c.requires.places
    (subst (λ (o : Option ℕ). IfSome o (IsPlaceOfAlike qs places q)) c.in-Some.is c.last_place.ensures)
