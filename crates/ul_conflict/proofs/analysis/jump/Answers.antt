use Rattle.ul_conflict.proofs.Turning.{jump_new, jump_again}
use Rattle.ul_conflict.proofs.analysis.jump.Goals as goal
use Rattle.std.proofs.Common.{arith}

pub returns-then-number-count : goal.returns-then-number-count
returns-then-number-count c = jump_new c.args.problem.now c.args.trail.now c.args.level c.args.resolved.number c.args.resolved.learned.items c.requires.jump
    (λ l. (let e = c.count.ensures.value in omega arith))

pub returns : goal.returns
returns c =
    let e = c.count.ensures.value in
    jump_again c.args.problem.now c.args.trail.now c.args.level c.args.resolved.number c.args.resolved.learned.items c.push.new.self.items c.in_ok-again.again
    c.requires.right c.requires.jump (omega arith) c.in_ok-again.ensures c.in_ok-push.ensures.items
