use Rattle.std.proofs.Common.{◌≡◌, ◌+◌, ◌≤◌, length}
use Rattle.std.specs.Prelude.{◌==◌}
use Rattle.std.specs.List.{slice_split}
use Rattle.ul_report_read.specs.StepReading.{all_terms_at, each_term}
use Rattle.ul_report_read.proofs.Loops.{in_front}
use Rattle.ul_report_read.proofs.steps.all_terms.Given as goal

abbrev pub invariant-loop-turn : goal.invariant-loop-turn
invariant-loop-turn l = record {
  parts : in_front l.terms.items (each_term l.first (slice_split (λ b. b == 125) l.rest)) ≡ all_terms_at l.bytes;
  left : l.turn + length l.rest ≤ length l.bytes;
}
