use Rattle.std.proofs.Common.{rules}
use Rattle.ul_claims.proofs.Keeping.{joins}
use Rattle.ul_claims.proofs.counters.Claims.take_in.Goals as goal

pub join_seat-requires : goal.join_seat-requires
join_seat-requires c = (search rules, search rules, search rules, search rules, joins _ _ _ _)
