use Rattle.laws_commands.proofs.Environments.{environments_of_verified as law}
use Rattle.laws_commands.proofs.laws.environments_of_verified.Goals as goal

pub returns : goal.returns
returns c =
    law (record {
      tells = c.text_reads_back.ensures.tells;
      walks = c.walk_laws.ensures.agree;
      more = c.more_comparisons.ensures;
    }) c.verified_are_sound.ensures
