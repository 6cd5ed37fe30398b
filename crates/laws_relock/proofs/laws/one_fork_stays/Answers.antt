use Rattle.laws_relock.proofs.Again.{one_fork_stays as law}
use Rattle.laws_relock.proofs.laws.one_fork_stays.Goals as goal

pub returns : goal.returns
returns c =
    law (record {
      forks = c.fork_laws.ensures;
      one_truth = c.one_truth.ensures;
      somewhere = c.has_world.ensures;
      no_extra = c.no_extra.ensures;
      eligible = c.eligible_same.ensures;
      preferred = c.preference_same.ensures;
      printable = c.locks_are_sound.ensures.printable;
    })
