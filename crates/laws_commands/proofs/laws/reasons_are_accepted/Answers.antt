use Rattle.laws_commands.proofs.Reasons.{files_are_accepted, reasons_are_accepted}
use Rattle.laws_commands.proofs.laws.reasons_are_accepted.Goals as goal

pub returns-clause-texts : goal.returns-clause-texts
returns-clause-texts c =
    reasons_are_accepted (record {
      unserved = c.refused_are_unserved.ensures.forks;
      no_extra = c.no_extra.ensures;
      read = c.printed_is_read.ensures;
      judged = c.printed_is_accepted.ensures;
    })

pub returns-clause-files : goal.returns-clause-files
returns-clause-files c =
    files_are_accepted c.inputs_by_what_is_read.ensures (record {
      unserved = c.refused_are_unserved.ensures.forks;
      no_extra = c.no_extra.ensures;
      read = c.printed_is_read.ensures;
      judged = c.printed_is_accepted.ensures;
    }) c.given_is_resolution.ensures.resolution c.given_has_texts.ensures
