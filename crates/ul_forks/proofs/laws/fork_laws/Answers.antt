use Rattle.ul_forks.proofs.Answers.{fork_laws}
use Rattle.ul_forks.proofs.laws.fork_laws.Goals as goal

pub returns : goal.returns
returns c = fork_laws
    (record {
      one_tree = c.one_truth.ensures;
      best_once = c.best_once.ensures;
      best_serves = c.best_serves.ensures;
      split_once = c.split_once.ensures;
      nothing = c.nothing_serves.ensures;
      equal = c.equal_problems.ensures;
      core_is_one = c.core_laws.ensures.one;
      core_once = c.core_split_once.ensures;
    })
    c.children.ensures c.core_children.ensures c.none_at_worlds.ensures c.unsplit_serves_whole.ensures
