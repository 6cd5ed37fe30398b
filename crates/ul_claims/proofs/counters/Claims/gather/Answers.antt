use Rattle.std.proofs.Common.{rules, arith, ◌≡◌, ◌<◌, ◌↔◌, ◌++◌, ◌∷◌, ℕ, List, [], ap, sym, ◌∙◌}
use Rattle.std.specs.Prelude.{Contains}
use Rattle.ul_claims.specs.Rule.{times, once_below}
use Rattle.ul_claims.specs.Seats.{ClaimsView, SeatView, times_drawn}
use Rattle.ul_claims.proofs.Keeping.{looks}
use Rattle.ul_claims.proofs.Gathered.{first_joined, next_own, joined_more, joined_drawn, joined_parts, drawn_from_times, times_from_drawn, sorted_rises, sorted_has, all_drawn}
use Rattle.ul_claims.proofs.counters.Claims.gather.Goals as goal

pub loop-seat-init : goal.loop-seat-init
loop-seat-init c =
    let left = c.in-Some.ensures.items ∙ ap (λ (s : SeatView). c.pop.new.self.items ++ s ∷ []) (sym c.last.view_is) in
    let first = first_joined _ _ _ _ _ c.requires.own left c.last.invariant.below_limit in record {
      table = ap (λ (m : ClaimsView). m.table) first.0;
      free = c.last.invariant.free;
      joined = first.1;
    }

pub take_in-requires : goal.take_in-requires
take_in-requires c = record {
  own = (c.loop-seat.invariant.table, next_own _ _ _ _ _ _ _ _ c.loop-seat.invariant.joined c.in-Some-pop.ensures.items);
}

pub loop-seat-preserved : goal.loop-seat-preserved
loop-seat-preserved c =
    let i = c.loop-seat.invariant in
    let t = c.in_ok-take_in.ensures in record {
      table = t.seat.0 ∙ i.table;
      free = ap (λ m. m.1) t.seat.1 ∙ i.free;
      joined = joined_more _ _ _ _ _ _ _ _ _ _ i.joined c.in-Some-pop.ensures.items t.numbers _ t.seat.1;
    }

pub load-requires : goal.load-requires
load-requires c = (search rules, search rules, looks _ _ _)

pub returns : goal.returns
returns c =
    let drawn : List ℕ = c.loop-seat.all.me.0.drawn in
    let none : c.loop-seat.seats.items ≡ [] = search rules in
    let joined = c.loop-seat.invariant.joined in
    let same : (n : ℕ) → times n drawn ≡ times_drawn n c.args.seats.items = λ n. joined_drawn _ _ _ _ _ _ joined none n in
    let has : (n : ℕ) → Contains c.sort_unstable.new.self.items n ↔ ((n < c.args.self.limit) × (0 < times n drawn)) = λ n. sorted_has c.args.self.limit drawn _ _ joined.kept c.sort_unstable.ensures.permutation n in record {
      rising = sorted_rises c.args.self.limit drawn _ _ joined.kept c.load.ensures.2.1 c.sort_unstable.ensures.permutation c.sort_unstable.ensures.sorted;
      exact = λ n. (
        (λ h. let d = (has n).0 h in (d.0, drawn_from_times n c.args.seats.items (omega (arith, d.1, same n)))),
        (λ h. (has n).1 (h.0, omega (arith, times_from_drawn n c.args.seats.items h.1, same n))),
      );
      apart = λ n. omega (arith, c.load.ensures.2.1 n, same n);
      whole = λ every refused n low.
          let counted : (x : ℕ) → times x drawn ≡ once_below x c.load.result = c.load.ensures.2.2 (joined_parts _ _ _ _ _ _ joined none every) in
          (has n).1 (low, all_drawn c.args.self c.args.seats.items drawn c.load.result c.requires.own same counted refused n low);
    }
