use Rattle.ul_algebra.specs.Spelled.{tree_of}
use Rattle.ul_merge.proofs.ForkSteps.{few_over, many_over}
use Rattle.ul_merge.proofs.forks.fork_regions.Goals as goal

pub returns-then-leaves-lt2-clause-forks : goal.returns-then-leaves-lt2-clause-forks
returns-then-leaves-lt2-clause-forks g c = few_over (tree_of c.args.supported.now) c.args.leaves.now c.new.result c.if-leaves-lt2.true c.new.ensures

pub returns-clause-forks : goal.returns-clause-forks
returns-clause-forks g c = many_over (tree_of c.args.supported.now) c.args.leaves.now c.in_ok-regions.regions c.if-leaves-lt2.false c.in_ok-regions.ensures.forks
