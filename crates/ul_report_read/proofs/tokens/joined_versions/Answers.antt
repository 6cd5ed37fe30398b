use Rattle.std.proofs.Common.{arith, length-drop, ◌+◌, eqb, refl, sym, ◌∙◌}
use Rattle.ul_report_read.specs.Tokens.{each_version, joined_at, version_at}
use Rattle.ul_report_read.proofs.Loops.{part_more, part_none}
use Rattle.ul_report_read.proofs.tokens.joined_versions.Goals as goal

pub loop-turn-preserved : goal.loop-turn-preserved
loop-turn-preserved c = record {
  parts =
      rw (c.in_ok-push-in-Some.ensures.items, c.after-rest.ensures)
      (part_more version_at each_version refl (λ t ts. refl) (λ b. eqb b 44) c.loop-turn.rest.now c.piece_len-count.result c.loop-turn.versions.items c.in-Some.version (joined_at c.args.bytes.now)
      (record { fits = c.piece_len-count.ensures.fits; last = c.piece_len-count.ensures.last; more = c.piece_len-count.ensures.more }) (omega arith) (sym c.in_ok-version.ensures ∙ c.in-Some.is) c.loop-turn.invariant.parts);
  left = rw c.after-rest.ensures (omega (arith, length-drop (c.piece_len-count.result + 1) c.loop-turn.rest.now, c.loop-turn.invariant.left));
}

pub returns-in-None : goal.returns-in-None
returns-in-None c =
    part_none version_at each_version refl (λ t ts. refl) (λ b. eqb b 44) c.loop-turn.rest.now c.piece_len-count.result c.loop-turn.versions.items (joined_at c.args.bytes.now)
    (record { fits = c.piece_len-count.ensures.fits; last = c.piece_len-count.ensures.last; more = c.piece_len-count.ensures.more }) (sym c.in_ok-version.ensures ∙ c.in-None.is) c.loop-turn.invariant.parts
