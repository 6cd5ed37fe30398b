use Rattle.std.proofs.Common.{arith, sym, ap, ◌∙◌}
use Rattle.std.specs.Ordering.{is_lt}
use Rattle.std.proofs.lemmas.Grind.{common_steps}
use Rattle.ul_report_read.specs.Tokens.{rises_from, version_less}
use Rattle.ul_report_read.proofs.Loops.{rise_next, rise_stop}
use Rattle.ul_report_read.proofs.tokens.increase_from.Goals as goal

pub loop-version-preserved : goal.loop-version-preserved
loop-version-preserved c =
    rise_next version_less c.loop-version.last.now c.version-item.result c.args.rest.now c.loop-version.version-index (rises_from version_less c.args.first.now c.args.rest.now) (grind (arith, common_steps)) c.version-item.is
    (ap is_lt (sym c.cmp.ensures) ∙ (sym c.is_lt.ensures ∙ c.if-not-is_lt.false)) c.loop-version.invariant

pub returns-then-not-is_lt : goal.returns-then-not-is_lt
returns-then-not-is_lt c =
    rise_stop version_less c.loop-version.last.now c.version-item.result c.args.rest.now c.loop-version.version-index (rises_from version_less c.args.first.now c.args.rest.now) (grind (arith, common_steps)) c.version-item.is
    (ap is_lt (sym c.cmp.ensures) ∙ (sym c.is_lt.ensures ∙ c.if-not-is_lt.true)) c.loop-version.invariant
