use Rattle.laws_relock.proofs.LockedAgain.{locks_are_locked_again as law}
use Rattle.laws_relock.proofs.laws.locks_are_locked_again.Goals as goal

pub returns : goal.returns
returns c =
    law c.inputs_by_what_is_read.ensures
    (record { printed = c.printed_laws.ensures; files = c.files_are_documents.ensures; extras = c.roots_list_no_other.ensures })
    c.one_fork_stays.ensures
