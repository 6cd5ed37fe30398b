use Rattle.std.proofs.Common.{take, ◌<◌}
use Rattle.std.specs.Prelude.{All}
use Rattle.ul_problem.proofs.fitting.are_below.Given as goal

abbrev pub invariant-loop-place : goal.invariant-loop-place
invariant-loop-place l = All (λ v. v < l.size) (take l.place-index l.places)
