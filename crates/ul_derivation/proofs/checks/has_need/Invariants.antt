use Rattle.std.proofs.Common.{drop}
use Rattle.ul_problem.specs.Steps.{HasNeed}
use Rattle.ul_derivation.proofs.checks.has_need.Given as goal

abbrev pub invariant-loop-need : goal.invariant-loop-need
invariant-loop-need l = HasNeed l.needs l.target l.permitted → HasNeed (drop l.need-index l.needs) l.target l.permitted
