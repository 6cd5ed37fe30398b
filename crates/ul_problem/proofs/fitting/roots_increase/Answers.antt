use Rattle.std.proofs.Common.{refl, arith}
use Rattle.ul_problem.specs.Problems.{PlaceBefore}
use Rattle.ul_problem.proofs.Loops.{rises_more, rises_all}
use Rattle.ul_problem.proofs.fitting.roots_increase.Goals as goal

pub loop-k-preserved : goal.loop-k-preserved
loop-k-preserved c = rises_more PlaceBefore c.args.roots.now c.loop-k.k 0 0 _ (omega arith) (omega arith) c.if-roots-k.false c.loop-k.invariant

pub returns : goal.returns
returns c = ((λ t. rises_all PlaceBefore c.args.roots.now c.loop-k.k _ (omega arith) c.loop-k.invariant), (λ h. refl))
