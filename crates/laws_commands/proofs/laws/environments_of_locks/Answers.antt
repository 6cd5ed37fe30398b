use Rattle.laws_commands.proofs.Environments.{environments_of_locks as law}
use Rattle.laws_commands.proofs.laws.environments_of_locks.Goals as goal

pub returns : goal.returns
returns c =
    law (record {
      tells = c.text_reads_back.ensures.tells;
      walks = c.walk_laws.ensures.agree;
      more = c.more_comparisons.ensures;
    }) c.merge_laws.ensures c.locks_are_sound.ensures.leaves c.locks_are_well_formed.ensures
