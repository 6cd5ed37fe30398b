use Rattle.std.proofs.Common.{subst}
use Rattle.ul_problem.proofs.ForCallers.{accepted_none}
use Rattle.ul_solver.specs.Turns.{IsTurn}
use Rattle.ul_solver.specs.declared.solver.Turn.{Turn}
use Rattle.ul_solver.proofs.Opening.{closed_opened, none_looked}
use Rattle.ul_solver.proofs.Shown.{finished_answer}
use Rattle.ul_solver.proofs.solver.solve.Goals as goal

pub follow-requires-clause-opened : goal.follow-requires-clause-opened
follow-requires-clause-opened c = record {
  are = closed_opened c.args.problem.now c.in_ok-trail.trail.steps c.in_ok-opened.opened.versions.items c.in_ok-opened.ensures.rows;
  looked = none_looked c.args.problem.now c.in_ok-trail.trail c.in_ok-opened.opened.versions.items c.in_ok-opened.opened.looked c.in_ok-opened.ensures.looked c.in_ok-trail.ensures.first;
  counts = c.in_ok-opened.ensures.counts;
}

pub returns-in-Finished : goal.returns-in-Finished
returns-in-Finished c =
    finished_answer c.args.problem.now c.loop-opened.trail c.advance.new.trail _ c.roots.ensures.whole c.loop-opened.invariant.state
    (subst (λ (r : Turn). IsTurn c.args.problem.now c.loop-opened.trail c.loop-opened.opened c.advance.new.trail c.advance.new.opened r) c.in-Finished.is c.in_ok-next.ensures)
    c.in_ok-picks-in-Finished.ensures

pub returns-in-Refused : goal.returns-in-Refused
returns-in-Refused c =
    let a = subst (λ (r : Turn). IsTurn c.args.problem.now c.loop-opened.trail c.loop-opened.opened c.advance.new.trail c.advance.new.opened r) c.in-Refused.is c.in_ok-next.ensures in
    (accepted_none c.args.problem.now c.in-Refused.derivation c.roots.ensures.whole a, a)
