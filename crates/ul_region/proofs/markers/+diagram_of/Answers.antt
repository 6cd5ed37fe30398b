use Rattle.std.proofs.Common.{◌<◌, length, arith}
use Rattle.std.proofs.lemmas.Result.{IfOk-weaker}
use Rattle.ul_interner.proofs.ForCallers.{knows_then}
use Rattle.ul_region.proofs.MarkerFacts.{all_formulas, all_parts_hold, all_less, any_formulas, some_part_holds, any_less, back_less, formula_one, formulas_before, formulas_behind, front_less, halves_hold, none_hold, one_holds, one_less}
use Rattle.ul_region.proofs.TruthFacts.{still}
use Rattle.ul_region.proofs.markers.+diagram_of.Goals as goal

pub diagram_of-joined-requires : goal.diagram_of-joined-requires
diagram_of-joined-requires g t c = let d = c.decreases in let less = all_less _ _ _ c.in-All.is c.as_slice.ensures.value in λ κs within. (
  omega (arith, d, less),
  (within, all_formulas _ _ _ c.in-All.is c.as_slice.ensures.value c.requires),
)

pub diagram_of-joined-requires-in-Any : goal.diagram_of-joined-requires-in-Any
diagram_of-joined-requires-in-Any g t c = let d = c.decreases in let less = any_less _ _ _ c.in-Any.is c.as_slice-in-Any.ensures.value in λ κs within. (
  omega (arith, d, less),
  (within, any_formulas _ _ _ c.in-Any.is c.as_slice-in-Any.ensures.value c.requires),
)

pub diagram_of-returns-in-All-clause-truth : goal.diagram_of-returns-in-All-clause-truth
diagram_of-returns-in-All-clause-truth g t c = IfOk-weaker c.joined.result _ _ (λ d h. all_parts_hold d _ _ _ c.in-All.is c.as_slice.ensures.value h) c.joined.ensures.truth

pub diagram_of-returns-in-Any-clause-truth : goal.diagram_of-returns-in-Any-clause-truth
diagram_of-returns-in-Any-clause-truth g t c = IfOk-weaker c.joined-in-Any.result _ _ (λ d h. some_part_holds d _ _ _ c.in-Any.is c.as_slice-in-Any.ensures.value h) c.joined-in-Any.ensures.truth

pub joined-returns-then-parts-eq0-clause-truth : goal.joined-returns-then-parts-eq0-clause-truth
joined-returns-then-parts-eq0-clause-truth g t c = none_hold c.args.all _ _ c.if-parts-eq0.true c.in_ok-d.ensures.truth

pub joined-returns-then-parts-eq1-clause-truth : goal.joined-returns-then-parts-eq1-clause-truth
joined-returns-then-parts-eq1-clause-truth g t c = one_holds c.args.all _ _ _ c.if-parts-eq1.true c.index-parts-0.is c.in_ok-d-2.ensures.truth

pub joined-diagram_of-requires : goal.joined-diagram_of-requires
joined-diagram_of-requires g t c = let d = c.decreases in let less = one_less _ _ c.if-parts-eq1.true c.index-parts-0.is in λ κs within. (
  omega (arith, d, less),
  (within, formula_one _ _ c.if-parts-eq1.true c.index-parts-0.is c.requires),
)

pub joined-joined-requires : goal.joined-joined-requires
joined-joined-requires g t c =
    let d = c.decreases in
    let whole = c.split_at.ensures.by_index.0 in
    let front = c.split_at.result.0.now in
    let back = c.split_at.result.1.now in
    let some : 0 < length back = omega (arith, c.split_at.ensures.back_len, c.if-parts-eq0.false, c.if-parts-eq1.false) in
    let less = front_less c.args.parts.now front back whole some in λ κs within. (
      omega (arith, d, less),
      (within, formulas_before _ _ _ whole c.requires),
    )

pub joined-joined-requires-2 : goal.joined-joined-requires-2
joined-joined-requires-2 g t c =
    let d = c.decreases in
    let whole = c.split_at.ensures.by_index.0 in
    let front = c.split_at.result.0.now in
    let back = c.split_at.result.1.now in
    let some : 0 < length front = omega (arith, c.split_at.ensures.front_len, c.if-parts-eq0.false, c.if-parts-eq1.false) in
    let less = back_less c.args.parts.now front back whole some in λ κs within. (
      omega (arith, d, less),
      (within, formulas_behind _ _ _ whole c.requires),
    )

pub joined-returns-in_err-second-clause-knows : goal.joined-returns-in_err-second-clause-knows
joined-returns-in_err-second-clause-knows g t c = knows_then _ _ _ c.in_ok-first.ensures.knows c.in_err-second.ensures.knows

pub joined-both_or_either-requires-clause-first : goal.joined-both_or_either-requires-clause-first
joined-both_or_either-requires-clause-first g t c = still _ _ _ c.in_ok-second.ensures.knows c.in_ok-first.ensures.diagram

pub joined-returns-clause-knows : goal.joined-returns-clause-knows
joined-returns-clause-knows g t c = knows_then _ _ _ (knows_then _ _ _ c.in_ok-first.ensures.knows c.in_ok-second.ensures.knows) c.both_or_either.ensures.knows

pub joined-returns-clause-truth : goal.joined-returns-clause-truth
joined-returns-clause-truth g t c =
    IfOk-weaker c.both_or_either.result _ _ (λ d j. halves_hold c.args.all d _ _ _ _ _ c.split_at.ensures.by_index.0 c.in_ok-first.ensures.truth c.in_ok-second.ensures.truth j) c.both_or_either.ensures.truth
