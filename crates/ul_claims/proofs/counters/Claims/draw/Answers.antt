use Rattle.std.proofs.Common.{rules, arith, ap, refl, ◌<◌, ◌^◌, length, List, ℕ}
use Rattle.ul_claims.proofs.Keeping.{draws}
use Rattle.ul_claims.proofs.Numbers.{room_for_one}
use Rattle.ul_claims.proofs.Drawing.{keeps_same, keeps_more, rises, few_so_far}
use Rattle.ul_claims.proofs.counters.Claims.draw.Goals as goal

pub fetch_add-number-requires : goal.fetch_add-number-requires
fetch_add-number-requires c = (search rules, search rules, draws _ _ _ c.seat.invariant.some_part (search rules))

pub push_reserved-requires : goal.push_reserved-requires
push_reserved-requires c =
    let seat = c.seat.invariant in
    let drawn : List ℕ = c.seat.inside.seat.me.0.drawn in
    let n : ℕ = c.fetch_add-number.result in
    omega (arith, ap length seat.below_limit, room_for_one c.seat.inside.limit n drawn seat.rising c.fetch_add-number.ensures.2.1 c.if-number-seat.false, seat.has_room)

pub invariant_of-seat : goal.invariant_of-seat
invariant_of-seat c =
    let few : length c.seat.inside.seat.me.0.drawn < 2 ^ 32 = search rules in
    keeps_same _ _ _ _ _ _ _ c.seat.invariant c.fetch_add-number.ensures.2.1 few c.if-number-seat.true _ c.fetch_add-number.ensures.2.0

pub invariant_of-seat-2 : goal.invariant_of-seat-2
invariant_of-seat-2 c =
    let few : length c.seat.inside.seat.me.0.drawn < 2 ^ 32 = search rules in
    keeps_more _ _ _ _ _ _ _ c.seat.invariant c.fetch_add-number.ensures.2.1 few c.if-number-seat.false _ c.fetch_add-number.ensures.2.0 _ c.push_reserved.ensures.items _ c.push_reserved.ensures.capacity

pub returns-clause-rising : goal.returns-clause-rising
returns-clause-rising c = rises _ _ c.seat.invariant.rising c.fetch_add-number.ensures.2.1 _ (ap (λ m. m.0.drawn) c.fetch_add-number.ensures.2.0)

pub returns-then-number-seat-clause-drawn : goal.returns-then-number-seat-clause-drawn
returns-then-number-seat-clause-drawn c =
    let now = ap (λ m. m.0.drawn) c.fetch_add-number.ensures.2.0 in
    rw (← c.seat.view_is) record {
      number = c.fetch_add-number.result;
      word = c.fetch_add-number.ensures.2.3;
      claim = c.fetch_add-number.ensures.2.2;
      list = search rules;
      greater = c.fetch_add-number.ensures.2.1;
      few = few_so_far _ _ c.seat.invariant.rising c.fetch_add-number.ensures.2.1 _ now;
      reply = c.if-number-seat.true;
    }

pub returns-clause-drawn : goal.returns-clause-drawn
returns-clause-drawn c =
    let now = ap (λ m. m.0.drawn) c.fetch_add-number.ensures.2.0 in
    rw (← c.seat.view_is) record {
      number = c.fetch_add-number.result;
      word = c.fetch_add-number.ensures.2.3;
      claim = c.fetch_add-number.ensures.2.2;
      list = search rules;
      greater = c.fetch_add-number.ensures.2.1;
      few = few_so_far _ _ c.seat.invariant.rising c.fetch_add-number.ensures.2.1 _ now;
      reply = (refl, c.if-number-seat.false);
    }
