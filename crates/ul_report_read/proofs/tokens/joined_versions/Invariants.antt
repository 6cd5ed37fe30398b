use Rattle.std.proofs.Common.{◌≡◌, ◌+◌, ◌≤◌, length}
use Rattle.std.specs.Prelude.{◌==◌}
use Rattle.std.specs.List.{slice_split}
use Rattle.ul_report_read.specs.Tokens.{each_version, joined_at}
use Rattle.ul_report_read.proofs.Loops.{in_front}
use Rattle.ul_report_read.proofs.tokens.joined_versions.Given as goal

abbrev pub invariant-loop-turn : goal.invariant-loop-turn
invariant-loop-turn l = record {
  parts : in_front l.versions.items (each_version (slice_split (λ b. b == 44) l.rest)) ≡ joined_at l.bytes;
  left : l.turn + length l.rest ≤ length l.bytes;
}
