use Rattle.std.proofs.Common.{arith, length-drop, ◌+◌, sym, ◌∙◌}
use Rattle.ul_report_read.specs.StepReading.{all_terms_at}
use Rattle.ul_report_read.proofs.Loops.{term_more, term_none}
use Rattle.ul_report_read.proofs.steps.all_terms.Goals as goal

pub loop-turn-preserved : goal.loop-turn-preserved
loop-turn-preserved c = record {
  parts =
      rw (c.in_ok-push-in-Some.ensures.items, c.after-rest.ensures)
      (term_more c.loop-turn.first c.loop-turn.rest.now c.piece_len-count.result c.loop-turn.terms.items c.in-Some.term (all_terms_at c.args.bytes.now)
      (record { fits = c.piece_len-count.ensures.fits; last = c.piece_len-count.ensures.last; more = c.piece_len-count.ensures.more }) (omega arith) (sym c.in_ok-parted.ensures ∙ c.in-Some.is) c.loop-turn.invariant.parts);
  left = rw c.after-rest.ensures (omega (arith, length-drop (c.piece_len-count.result + 1) c.loop-turn.rest.now, c.loop-turn.invariant.left));
}

pub returns-in-None : goal.returns-in-None
returns-in-None c =
    term_none c.loop-turn.first c.loop-turn.rest.now c.piece_len-count.result c.loop-turn.terms.items (all_terms_at c.args.bytes.now)
    (record { fits = c.piece_len-count.ensures.fits; last = c.piece_len-count.ensures.last; more = c.piece_len-count.ensures.more }) (omega arith) (sym c.in_ok-parted.ensures ∙ c.in-None.is) c.loop-turn.invariant.parts
