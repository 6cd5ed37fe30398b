use Rattle.std.proofs.Common.{◌≡◌, ◌+◌, ◌++◌, drop, string_bytes}
use Rattle.ul_report.specs.Naming.{named_steps}
use Rattle.ul_report.specs.Texts.{lines_from}
use Rattle.ul_report.proofs.step_lines.steps.Given as goal

abbrev pub invariant-loop-i : goal.invariant-loop-i
invariant-loop-i l =
    string_bytes l.out ++ lines_from (l.i + 1) (named_steps l.problem (drop l.i l.steps))
    ≡ lines_from 1 (named_steps l.problem l.steps)
