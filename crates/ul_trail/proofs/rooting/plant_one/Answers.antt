use Rattle.std.proofs.Common.{arith}
use Rattle.ul_trail.proofs.Decisions.{decision_sized}
use Rattle.ul_trail.proofs.rooting.plant_one.Goals as goal

pub push-requires-clause-sized : goal.push-requires-clause-sized
push-requires-clause-sized c = decision_sized c.args.problem.now c.args.standing.now.sizes.items c.args.root 0 c.size_at.result c.decision-term.result c.requires.sizes (let s = c.requires.single in omega arith) c.size_at.ensures c.decision-term.ensures
