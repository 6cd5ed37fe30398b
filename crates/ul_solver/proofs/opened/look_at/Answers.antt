use Rattle.std.proofs.Common.{Some, None, refl, subst}
use Rattle.ul_trail.specs.Certain.{IsCertainAt}
use Rattle.ul_solver.proofs.Moving.{look_none, look_has, look_open}
use Rattle.ul_solver.proofs.Opening.{row_opened}
use Rattle.ul_solver.proofs.opened.look_at.Goals as goal

pub returns-in-None : goal.returns-in-None
returns-in-None c = look_none c.args.problem.now c.args.trail.now c.args.opened.now _ c.args.place c.requires.state c.requires.opened c.requires.next c.requires.there
    (subst (IsCertainAt c.args.problem.now c.args.trail.now.facts c.args.place) c.in-None.is c.certain.ensures) refl refl refl

pub returns-then-has : goal.returns-then-has
returns-then-has c =
    let one = subst (IsCertainAt c.args.problem.now c.args.trail.now.facts c.args.place) c.in-Some.is c.certain.ensures in
    look_has c.args.problem.now c.args.trail.now c.args.opened.now _ c.args.place c.in-Some.node c.in-Some.version c.requires.state c.requires.opened c.requires.next c.requires.there one
    (row_opened c.args.problem.now c.args.trail.now.steps c.args.opened.now.versions.items c.in-Some.node c.in-Some.version c.index.result.now c.has.result _ c.requires.opened.are one.1 c.index.ensures c.has.ensures c.if-has.true) refl refl refl

pub returns-in_ok-open_block-in-Some : goal.returns-in_ok-open_block-in-Some
returns-in_ok-open_block-in-Some c =
    let one = subst (IsCertainAt c.args.problem.now c.args.trail.now.facts c.args.place) c.in-Some.is c.certain.ensures in
    look_open c.args.problem.now c.args.trail.now c.open_block.new.trail c.args.opened.now c.open_block.new.opened _ c.args.place c.in-Some.node c.in-Some.version c.in_ok-open_block-in-Some.ensures c.requires.next c.requires.there one refl refl refl
