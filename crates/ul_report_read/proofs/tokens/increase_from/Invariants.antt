use Rattle.std.proofs.Common.{◌≡◌, drop}
use Rattle.ul_report_read.specs.Tokens.{rises_from, version_less}
use Rattle.ul_report_read.proofs.tokens.increase_from.Given as goal

abbrev pub invariant-loop-version : goal.invariant-loop-version
invariant-loop-version l = rises_from version_less l.last (drop l.version-index l.rest) ≡ rises_from version_less l.first l.rest
