use Rattle.std.proofs.Common.{[], ap, filter, sym, ◌∙◌}
use Rattle.std.proofs.lemmas.List.{take_all}
use Rattle.ul_prepared.specs.Orders.{flag_at}
use Rattle.ul_prepared.proofs.Flagged.{kept_more, kept_same}
use Rattle.ul_prepared.proofs.names.flagged.Goals as goal
use Rattle.ul_prepared.proofs.names.flagged.Goals.{then-has_flag+in_ok-push, else-has_flag}

pub loop-place-preserved : goal.loop-place-preserved
loop-place-preserved c =
    let p = flag_at c.args.flags.now in
    elim c.if-has_flag.branch [
      | then-has_flag+in_ok-push w ↦ kept_more p [] c.args.places.now c.loop-place.found.items c.if-has_flag.found.items c.loop-place.place-index
          (ap (λ z. z.items) w.found-is ∙ w.in_ok-push.ensures.items) c.loop-place.invariant (sym c.has_flag.ensures ∙ w.if-has_flag.true) c.loop-place-test.true
      | else-has_flag w ↦ ap (λ z. z.items) w.found-is
          ∙ kept_same p [] c.args.places.now c.loop-place.found.items c.loop-place.place-index c.loop-place.invariant (sym c.has_flag.ensures ∙ w.if-has_flag.false) c.loop-place-test.true
    ]

pub returns : goal.returns
returns c = c.loop-place.invariant ∙ ap (filter (flag_at c.args.flags.now)) (take_all c.loop-place.place-index c.args.places.now c.loop-place-test.false)
