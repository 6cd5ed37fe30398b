use Rattle.std.proofs.Common.{rules}
use Rattle.ul_claims.proofs.Keeping.{splits}
use Rattle.ul_claims.proofs.counters.Claims.split.Goals as goal

pub split_seat-requires : goal.split_seat-requires
split_seat-requires c = (search rules, search rules, splits _ _ (search rules) c.seat.invariant.few)
