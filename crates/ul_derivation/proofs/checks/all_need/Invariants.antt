use Rattle.std.proofs.Common.{◌≡◌, ℕ, ◌<◌, ◌-◌, [], true, get_or}
use Rattle.ul_ranges.specs.Flags.{has}
use Rattle.ul_problem.specs.Steps.{HasNeed}
use Rattle.ul_derivation.proofs.checks.all_need.Given as goal

abbrev pub invariant-loop-from : goal.invariant-loop-from
invariant-loop-from l = (k : ℕ) → k < l.from → has k l.versions ≡ true → HasNeed (get_or l.rows k []) l.target l.permitted

abbrev pub decreases-loop-from : goal.decreases-loop-from
decreases-loop-from l = l.size - l.from
