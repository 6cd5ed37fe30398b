use Rattle.std.proofs.Common.{◌≡◌, [], vec_len}
use Rattle.ul_claims.proofs.Gathered.{Joined}
use Rattle.ul_claims.proofs.counters.Claims.gather.Given as goal

abbrev pub invariant-loop-seat : goal.invariant-loop-seat
invariant-loop-seat l = record {
  table : l.all.table_id ≡ l.fn.self.table;
  free : l.all.me.1 ≡ [];
  joined : Joined l.fn.self l.fn.seats.items l.seats.items l.all.me.0.parts l.all.me.0.drawn l.numbers.items;
}

abbrev pub decreases-loop-seat : goal.decreases-loop-seat
decreases-loop-seat l = vec_len l.seats
