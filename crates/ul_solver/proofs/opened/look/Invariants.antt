use Rattle.std.proofs.Common.{◌≡◌}
use Rattle.ul_solver.specs.Turns.{IsWider}
use Rattle.ul_solver.proofs.opened.look.Given as goal

abbrev pub invariant-loop-place : goal.invariant-loop-place
invariant-loop-place l = record {
  wider : IsWider l.problem l.initial.trail l.initial.opened l.trail l.opened;
  same : l.trail ≡ l.initial.trail;
  looked : l.opened.looked ≡ l.place;
}
