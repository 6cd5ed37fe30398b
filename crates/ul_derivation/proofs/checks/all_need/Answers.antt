use Rattle.std.proofs.Common.{arith, List, ◌<◌, length, subst, sym}
use Rattle.ul_problem.proofs.ForCallers.{has_within}
use Rattle.ul_problem.specs.Steps.{HasNeed}
use Rattle.ul_problem.specs.declared.problem.Need.{Need}
use Rattle.ul_derivation.proofs.Needs.{row_read, row_sizes, need_next}
use Rattle.ul_derivation.proofs.checks.all_need.Goals as goal
use Rattle.ul_derivation.proofs.checks.all_need.Goals.{else-not-is_led_to-via-then-not-is_led_to+else-not-has_need, else-not-is_led_to-via-else-not-is_led_to}

pub is_led_to-requires : goal.is_led_to-requires
is_led_to-requires c =
    let below : c.in-Some.version < length c.args.versions.now = has_within c.args.versions.now c.in-Some.version c.in-Some.ensures.1 in
    row_sizes c.args.rows.now c.in-Some.version c.args.target (length c.args.permitted.now) c.index-rows-version.result c.as_slice-needs.result.now c.requires.sizes
    (omega (arith, c.requires.rows)) c.index-rows-version.is c.as_slice-needs.ensures

pub has_need-requires : goal.has_need-requires
has_need-requires c =
    let below : c.in-Some.version < length c.args.versions.now = has_within c.args.versions.now c.in-Some.version c.in-Some.ensures.1 in
    row_sizes c.args.rows.now c.in-Some.version c.args.target (length c.args.permitted.now) c.index-rows-version.result c.as_slice-needs.result.now c.requires.sizes
    (omega (arith, c.requires.rows)) c.index-rows-version.is c.as_slice-needs.ensures

pub overflow_add-from : goal.overflow_add-from
overflow_add-from c =
    let below : c.in-Some.version < length c.args.versions.now = has_within c.args.versions.now c.in-Some.version c.in-Some.ensures.1 in
    omega (arith, c.size-size.ensures, c.size-size.type_inv)

pub loop-from-preserved : goal.loop-from-preserved
loop-from-preserved c =
    let below : c.in-Some.version < length c.args.versions.now = has_within c.args.versions.now c.in-Some.version c.in-Some.ensures.1 in
    let read = row_read c.args.rows.now c.in-Some.version c.index-rows-version.result c.as_slice-needs.result.now (omega (arith, c.requires.rows)) c.index-rows-version.is c.as_slice-needs.ensures in
    let here : HasNeed c.as_slice-needs.result.now c.args.target c.args.permitted.now = elim c.else-not-is_led_to.branch [
      | else-not-is_led_to-via-then-not-is_led_to+else-not-has_need w ↦ w.has_need.ensures.0 w.if-not-has_need.false
      | else-not-is_led_to-via-else-not-is_led_to w ↦ c.is_led_to.ensures w.if-not-is_led_to.false
    ] in
    need_next c.args.rows.now c.args.versions.now c.args.target c.args.permitted.now c.loop-from.from c.in-Some.version c.loop-from.invariant c.in-Some.ensures
    (subst (λ (l : List Need). HasNeed l c.args.target c.args.permitted.now) (sym read) here)
