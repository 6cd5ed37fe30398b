use Rattle.std.proofs.Common.{◌≡◌, drop}
use Rattle.ul_report_read.specs.StepReading.{term_less}
use Rattle.ul_report_read.specs.Tokens.{rises_from}
use Rattle.ul_report_read.proofs.steps.increase_from.Given as goal

abbrev pub invariant-loop-term : goal.invariant-loop-term
invariant-loop-term l = rises_from term_less l.last (drop l.term-index l.rest) ≡ rises_from term_less l.first l.rest
