use Rattle.laws_relock.proofs.PrintedAgain.{one_fork_is_printed_again as law}
use Rattle.laws_relock.proofs.laws.one_fork_printed.Goals as goal

pub returns : goal.returns
returns c =
    law c.locks_within_limits.ensures c.locks_are_settled.ensures.locks c.locks_are_locked_again.ensures
    c.text_laws.ensures.different c.text_laws.ensures.locks_text
