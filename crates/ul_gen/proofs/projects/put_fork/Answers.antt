use Rattle.ul_gen.specs.Texts.{fork_lines}
use Rattle.ul_gen.proofs.Written.{two_put}
use Rattle.ul_gen.proofs.projects.put_fork.Goals as goal

pub returns : goal.returns
unfolding fork_lines
returns c = two_put _ _ _ _ _ c.in_ok-put_condition.ensures c.in_ok-put_condition-2.ensures
