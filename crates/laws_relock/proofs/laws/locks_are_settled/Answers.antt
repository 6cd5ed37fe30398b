use Rattle.laws_relock.proofs.Settled.{locks_are_settled, relocks_are_settled}
use Rattle.laws_relock.proofs.laws.locks_are_settled.Goals as goal

pub returns-clause-locks : goal.returns-clause-locks
returns-clause-locks c = locks_are_settled
    (record { printed = c.printed_laws.ensures; files = c.files_are_documents.ensures; extras = c.roots_list_no_other.ensures })

pub returns-clause-relocks : goal.returns-clause-relocks
returns-clause-relocks c = relocks_are_settled
    (record { printed = c.printed_laws.ensures; files = c.files_are_documents.ensures; extras = c.roots_list_no_other.ensures })
