use Rattle.ul_problem.specs.Steps.{said_by}
use Rattle.std.proofs.Common.{◌≡◌, ◌++◌, take, length}
use Rattle.ul_trail.specs.Watched.{IsWatched}
use Rattle.ul_trail.proofs.holding.hold.Given as goal

abbrev pub invariant-loop-step : goal.invariant-loop-step
invariant-loop-step l = record {
  watched : IsWatched l.watching.terms.items l.watching.rows.items;
  width : length l.watching.rows.items ≡ length l.fn.watching.rows.items;
  terms : l.watching.terms.items ≡ l.fn.watching.terms.items ++ said_by l.problem (take l.step-index l.steps);
}
