use Rattle.std.proofs.Common.{subst, sym, ◌∙◌}
use Rattle.ul_solver.specs.Turns.{IsLookedOver}
use Rattle.ul_solver.proofs.Moving.{looked_end, looked_move}
use Rattle.ul_solver.proofs.solver.after_quiet.Goals as goal

pub returns-then-branch : goal.returns-then-branch
returns-then-branch c = looked_move c.args.problem.now c.args.trail.now c.look.new.trail c.follow.new.trail c.args.opened.now c.look.new.opened c.in_ok-next.next
    (subst (IsLookedOver c.args.problem.now c.args.trail.now c.args.opened.now c.look.new.trail c.look.new.opened) c.if-branch.true c.in_ok-look.ensures) c.in_ok-next.ensures

pub returns-in-None : goal.returns-in-None
returns-in-None c = looked_end c.args.problem.now c.args.trail.now c.look.new.trail c.args.opened.now c.look.new.opened c.requires.quiet
    (subst (IsLookedOver c.args.problem.now c.args.trail.now c.args.opened.now c.look.new.trail c.look.new.opened) c.if-branch.false c.in_ok-look.ensures) (sym c.next.ensures ∙ c.in-None.is)
