use Rattle.std.proofs.Common.{inl, inr, sym, ◌∙◌}
use Rattle.std.proofs.lemmas.Bool.{false≢true}
use Rattle.ul_ranges.proofs.Merging.{refused, accepted, is_zero}
use Rattle.ul_ranges.proofs.cuts.Cuts.fits.Goals as goal
use Rattle.ul_ranges.proofs.cuts.Cuts.fits.Goals.{then-start-least-via-then-start-least, then-start-least-via-else-start-least+then-start-ge-END}

pub returns-then-start-least : goal.returns-then-start-least
returns-then-start-least c = (
  λ e. absurd (false≢true e),
  λ a. absurd (refused c.args.starts.now c.loop-start.start-index c.loop-start.least c.loop-start-test.true c.loop-start.invariant.1
      (elim c.then-start-least.branch [
        | then-start-least-via-then-start-least w ↦ inl w.if-start-least.true
        | then-start-least-via-else-start-least+then-start-ge-END w ↦ inr w.if-start-ge-END.true
      ]) a),
)

pub returns : goal.returns
returns c =
    let first = c.copied.ensures ∙ c.first.ensures.value in
    let zero = is_zero c.copied.result in (
      λ e. accepted c.args.starts.now c.loop-start.start-index c.loop-start.least c.loop-start-test.false c.loop-start.invariant.0
          (sym first ∙ zero.0 (sym c.eq.ensures ∙ e)),
      λ a. c.eq.ensures ∙ zero.1 (first ∙ a.first),
    )
