use Rattle.ul_claims.proofs.Keeping.{one_seat_each}
use Rattle.ul_claims.proofs.laws.each_number_has_one_seat.Goals as goal

pub returns : goal.returns
returns c = one_seat_each
