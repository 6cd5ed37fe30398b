use Rattle.std.proofs.Common.{◌<◌, refl, get_or, length, arith}
use Rattle.std.proofs.lemmas.List.{get_or_default}
use Rattle.ul_region.specs.Numbers.{fields_in}
use Rattle.ul_region.specs.Rows.{next_in, number_in, requirement_of, truth_in}
use Rattle.ul_region.proofs.Lent.{lent_at, lent_below}
use Rattle.ul_region.proofs.RowFacts.{taken_more}
use Rattle.ul_region.proofs.asking.put_together.Goals as goal

pub loop-place-preserved : goal.loop-place-preserved
loop-place-preserved c =
    let before = c.loop-place.asked.items in
    let after = c.push.new.self.items in
    let i = c.loop-place.place in
    let rs = c.args.requirements.now in
    let one = c.index-requirements-place.result in
    let truth_there : i < length c.args.truths.now = omega (arith, c.loop-place-test.true, c.requires.truths) in
    let number_there : i < length c.args.numbers.now = omega (arith, c.loop-place-test.true, c.requires.numbers) in
    let next_there : i < length c.args.nexts.now = omega (arith, c.loop-place-test.true, c.requires.nexts) in
    record {
      same = taken_more requirement_of before after _ (fields_in rs) i one.now c.in_ok-push.ensures.items c.loop-place.invariant.same refl (lent_below rs i c.loop-place-test.true) (lent_at rs i one c.loop-place-test.true c.index-requirements-place.is);
      truths = taken_more truth_in before after _ c.args.truths.now i (get_or c.args.truths.now i 0) c.in_ok-push.ensures.items c.loop-place.invariant.truths refl truth_there (get_or_default c.args.truths.now i 0 (get_or c.args.truths.now i 0) truth_there);
      numbers = taken_more number_in before after _ c.args.numbers.now i (get_or c.args.numbers.now i 0) c.in_ok-push.ensures.items c.loop-place.invariant.numbers refl number_there (get_or_default c.args.numbers.now i 0 (get_or c.args.numbers.now i 0) number_there);
      nexts = taken_more next_in before after _ c.args.nexts.now i (get_or c.args.nexts.now i 0) c.in_ok-push.ensures.items c.loop-place.invariant.nexts refl next_there (get_or_default c.args.nexts.now i 0 (get_or c.args.nexts.now i 0) next_there);
    }
