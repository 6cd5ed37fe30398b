use Rattle.laws_promises.proofs.OfRelocks.{relocks_are_right, relocks_are_verified, right_locks_stay as law}
use Rattle.laws_promises.proofs.laws.right_locks_stay.Goals as goal

pub returns-clause-stay : goal.returns-clause-stay
returns-clause-stay c =
    law c.printed_are_settled.ensures.locks c.printed_are_settled.ensures.relocks c.settled_texts.ensures

pub returns-clause-verified : goal.returns-clause-verified
returns-clause-verified c = relocks_are_verified c.printed_are_settled.ensures.relocks c.settled_texts.ensures

pub returns-clause-right : goal.returns-clause-right
returns-clause-right c = relocks_are_right c.printed_are_settled.ensures.relocks c.settled_locks.ensures
