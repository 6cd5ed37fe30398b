use Rattle.std.proofs.Common.{arith}
use Rattle.std.proofs.lemmas.Result.{IfOk-weaker}
use Rattle.ul_region.proofs.ExtraFacts.{all_are, any_are, left_first, left_more, left_none, literal_is}
use Rattle.ul_region.proofs.extra_index.+named.Goals as goal

pub add_marker-returns-in-Extra : goal.add_marker-returns-in-Extra
add_marker-returns-in-Extra t c = IfOk-weaker c.with_extra.result _ _ (λ j h. literal_is c.args.index j _ _ _ _ _ c.in-Extra.is c.as_str.ensures.value h) c.with_extra.ensures

pub add_marker-returns-in-All : goal.add_marker-returns-in-All
add_marker-returns-in-All t c = IfOk-weaker c.add_parts.result _ _ (λ j h. all_are c.args.index j _ _ _ _ c.in-All.is c.deref.ensures.value h) c.add_parts.ensures

pub add_marker-returns-in-Any : goal.add_marker-returns-in-Any
add_marker-returns-in-Any t c = IfOk-weaker c.add_parts-in-Any.result _ _ (λ j h. any_are c.args.index j _ _ _ _ c.in-Any.is c.deref-in-Any.ensures.value h) c.add_parts-in-Any.ensures

pub add_parts-loop-part-init : goal.add_parts-loop-part-init
add_parts-loop-part-init t c = left_first c.args.parts.now c.args.place c.args.index

pub add_parts-loop-part-preserved : goal.add_parts-loop-part-preserved
add_parts-loop-part-preserved t c = left_more c.args.parts.now c.args.place c.args.index c.loop-part.index c.in_ok-index.index c.loop-part.part-index c.part-item.result
    c.loop-part-test.true c.part-item.is c.in_ok-index.ensures c.loop-part.invariant

pub add_parts-returns : goal.add_parts-returns
add_parts-returns t c = left_none c.args.parts.now c.args.place c.args.index c.loop-part.index c.loop-part.part-index (omega arith) c.loop-part.invariant
