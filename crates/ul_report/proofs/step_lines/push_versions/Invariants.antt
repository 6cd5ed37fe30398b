use Rattle.std.proofs.Common.{◌≡◌, ◌-◌, ◌++◌, drop, string_bytes, true}
use Rattle.ul_report.specs.Naming.{flagged_elements}
use Rattle.ul_report.specs.Texts.{versions_text}
use Rattle.ul_report.proofs.step_lines.push_versions.Given as goal

abbrev pub invariant-loop-from : goal.invariant-loop-from
invariant-loop-from l =
    string_bytes l.out ++ versions_text l.first (flagged_elements (drop l.from l.set) (drop l.from l.versions))
    ≡ string_bytes l.fn.out ++ versions_text true (flagged_elements l.set l.versions)

abbrev pub decreases-loop-from : goal.decreases-loop-from
decreases-loop-from l = l.size - l.from
