use Rattle.std.proofs.Common.{arith, ◌<◌, length, string_bytes, ◌++◌, ◌+◌, drop, true}
use Rattle.ul_problem.proofs.ForCallers.{has_within}
use Rattle.ul_report.specs.Naming.{flagged_elements}
use Rattle.ul_report.specs.Texts.{versions_text}
use Rattle.ul_report.proofs.Written.{next_left, none_left, version_written, versions_written}
use Rattle.ul_report.proofs.step_lines.push_versions.Goals as goal

pub returns-in-None : goal.returns-in-None
returns-in-None c =
    versions_written (string_bytes c.args.out.now ++ versions_text true (flagged_elements c.args.set.now c.args.versions.now)) (string_bytes c.loop-from.out) c.loop-from.first
    (flagged_elements (drop c.loop-from.from c.args.set.now) (drop c.loop-from.from c.args.versions.now)) c.loop-from.invariant
    (none_left c.args.set.now c.args.versions.now c.loop-from.from c.in-None.ensures)

pub loop-from-preserved : goal.loop-from-preserved
loop-from-preserved c =
    let within : c.in-Some.place < length c.args.set.now = has_within c.args.set.now c.in-Some.place c.in-Some.ensures.1 in
    version_written (string_bytes c.args.out.now ++ versions_text true (flagged_elements c.args.set.now c.args.versions.now)) (string_bytes c.loop-from.out) (string_bytes c.push_version.new.out) c.loop-from.first
    c.index-versions-place.result (flagged_elements (drop (c.in-Some.place + 1) c.args.set.now) (drop (c.in-Some.place + 1) c.args.versions.now))
    (flagged_elements (drop c.loop-from.from c.args.set.now) (drop c.loop-from.from c.args.versions.now))
    c.in_ok-push_version.ensures c.loop-from.invariant
    (next_left c.args.set.now c.args.versions.now c.loop-from.from c.in-Some.place c.index-versions-place.result c.in-Some.ensures (omega (arith, c.requires, within)) c.index-versions-place.is)
