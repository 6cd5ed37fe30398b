use Rattle.std.proofs.Common.{◌∙◌}
use Rattle.ul_region.specs.Numbers.{fields_in}
use Rattle.ul_region.proofs.RowFacts.{all_asked}
use Rattle.ul_region.proofs.asking.ask_all.Goals as goal

pub returns-clause-asked : goal.returns-clause-asked
returns-clause-asked g c = all_asked c.truth_places.new.algebra c.args.node.now c.truth_places.new.truths.marks.items (fields_in c.args.requirements.now) c.in_ok-places.places.items c.in_ok-asked.asked.items
    c.in_ok-asked.ensures.same (c.in_ok-asked.ensures.truths ∙ c.as_slice-3.ensures.value) c.in_ok-places.ensures.truths
