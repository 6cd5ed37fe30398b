use Rattle.std.proofs.Common.{arith}
use Rattle.ul_inputs.specs.Resolutions.{view}
use Rattle.ul_commands.proofs.Mergeable.{leaves_merge, locked_answer, unwritten_answer}
use Rattle.ul_commands.proofs.locking.lock_answer.Goals as goal

pub merge-requires-clause-leaves : goal.merge-requires-clause-leaves
merge-requires-clause-leaves g c κs within =
    rw c.as_slice.ensures.value
    (leaves_merge c.fork_laws.ensures c.has_world.ensures c.no_extra.ensures (view c.args.resolution.now) c.args.algebra c.args.leaves.now c.requires.resolution c.requires.forks)

pub returns-in-Some : goal.returns-in-Some
returns-in-Some g c =
    let merged = c.in_ok-lock.ensures in
    locked_answer (view c.args.resolution.now) c.args.algebra c.args.leaves.now c.in-Some.lock _ c.requires.forks
    (rw c.as_slice.ensures.value at (rw c.in-Some.is at merged)) (omega (arith, c.len.ensures, c.args.leaves.now.ok))

pub returns-in-None : goal.returns-in-None
returns-in-None g c =
    let merged = c.in_ok-lock.ensures in
    unwritten_answer (view c.args.resolution.now) c.args.algebra c.args.leaves.now c.requires.forks
    (rw c.as_slice.ensures.value at (rw c.in-None.is at merged))
