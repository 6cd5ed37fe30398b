use Rattle.std.proofs.Common.{◌++◌, ℕ, List, ap, filter, not, sym, ◌∙◌}
use Rattle.std.proofs.lemmas.List.{take_all}
use Rattle.ul_prepared.specs.Orders.{flag_at}
use Rattle.ul_prepared.proofs.Flagged.{kept_more, kept_same}
use Rattle.ul_prepared.proofs.names.put_others.Goals as goal
use Rattle.ul_prepared.proofs.names.put_others.Goals.{then-not-has_flag+in_ok-push, else-not-has_flag}

pub loop-place-preserved : goal.loop-place-preserved
loop-place-preserved c =
    let first = c.args.found.now.items in
    elim c.if-not-has_flag.branch [
      | then-not-has_flag+in_ok-push w ↦ kept_more (λ (k : ℕ). not (flag_at c.args.flags.now k)) first c.args.places.now c.loop-place.found.items c.if-not-has_flag.found.items c.loop-place.place-index
          (ap (λ z. z.items) w.found-is ∙ w.in_ok-push.ensures.items) c.loop-place.invariant (ap not (sym c.has_flag.ensures ∙ w.if-not-has_flag.true)) c.loop-place-test.true
      | else-not-has_flag w ↦ ap (λ z. z.items) w.found-is
          ∙ kept_same (λ (k : ℕ). not (flag_at c.args.flags.now k)) first c.args.places.now c.loop-place.found.items c.loop-place.place-index c.loop-place.invariant
          (ap not (sym c.has_flag.ensures ∙ w.if-not-has_flag.false)) c.loop-place-test.true
    ]

pub returns : goal.returns
returns c = c.loop-place.invariant
    ∙ ap (λ (z : List ℕ). c.args.found.now.items ++ filter (λ (k : ℕ). not (flag_at c.args.flags.now k)) z) (take_all c.loop-place.place-index c.args.places.now c.loop-place-test.false)
