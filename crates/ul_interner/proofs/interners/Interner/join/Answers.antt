use Rattle.std.proofs.Common.{arith, ap, sym, ◌∙◌, length, subst}
use Rattle.ul_interner.specs.Logs.{AllBegin, AreSeen}
use Rattle.ul_interner.proofs.Keeping.{joins, settles, length-merged}
use Rattle.ul_interner.proofs.interners.Interner.join.Goals as goal

pub join_seat-requires : goal.join_seat-requires
join_seat-requires g c =
    let t = c.self.invariant in (
      ap (λ z. z.table) c.pass.view_is ∙ (c.requires.own.0 ∙ sym c.self.view_is),
      ap (λ z. z.table) c.other.view_is ∙ (c.requires.own.1 ∙ sym c.self.view_is),
      c.other.invariant.free,
      omega (arith, t.words, t.some),
      joins _ _ _ _ _ _ c.other.invariant.holds,
    )

pub load-requires : goal.load-requires
load-requires g c =
    let t = c.self.invariant in (
      c.join_seat.ensures.0 ∙ (ap (λ z. z.table) c.pass.view_is ∙ (c.requires.own.0 ∙ sym c.self.view_is)),
      omega (arith, t.words, t.some),
      rw t.told (settles g.L.Label.hash_of c.self.inside.shards _ _ c.join_seat.new.seat.me t.slots),
    )

pub invariant_of-pass : goal.invariant_of-pass
invariant_of-pass g c =
    let p = c.pass.invariant in
    let now = c.load.ensures.2.0 in
    let j = c.join_seat.ensures.2 in
    let same = ap (λ z. z.slots) (c.load.ensures.0 ∙ c.join_seat.ensures.0) in
    let own = ap (λ z. z.slots) (ap (λ z. z.table) c.pass.view_is ∙ (c.requires.own.0 ∙ sym c.self.view_is)) in record {
      free = ap (λ m. m.1) now ∙ (ap (λ m. m.1) j ∙ p.free);
      holds = ap (λ m. m.0.holds) now ∙ (ap (λ m. m.0.holds) j ∙ p.holds);
      long = ap (λ m. length m.0.logs) now ∙ (length-merged c.join_seat.new.seat.me.0.logs c.join_seat.new.seat.me.0.told ∙ (ap (λ m. length m.0.logs) j ∙ (p.long ∙ sym same)));
      seen = subst (λ z. AreSeen g.L.Label.hash_of z c.load.new.seat.me.0.logs) (sym (same ∙ own)) c.load.ensures.2.3;
    }

pub returns-clause-knows : goal.returns-clause-knows
returns-clause-knows g c = record {
  table = c.load.ensures.0 ∙ (c.join_seat.ensures.0 ∙ ap (λ z. z.table) c.pass.view_is);
  logs = subst (λ z. AllBegin z c.load.new.seat.me.0.logs) (ap (λ m. m.0.logs) c.join_seat.ensures.2 ∙ ap (λ z. z.logs) c.pass.view_is) c.load.ensures.2.1;
}

pub returns-clause-others : goal.returns-clause-others
returns-clause-others g c =
    let j = c.join_seat.ensures.2 in
    let slots = ap (λ z. z.table.slots) c.other.view_is ∙ (ap (λ z. z.slots) (c.requires.own.1 ∙ sym c.requires.own.0) ∙ sym (ap (λ z. z.table.slots) c.pass.view_is)) in record {
      table = c.load.ensures.0 ∙ (c.join_seat.ensures.0 ∙ (ap (λ z. z.table) c.pass.view_is ∙ (c.requires.own.0 ∙ sym c.requires.own.1)));
      logs = subst (λ z. AllBegin z c.load.new.seat.me.0.logs) (ap (λ m. m.0.told) j ∙ ap (λ z. z.logs) c.other.view_is)
          (c.load.ensures.2.2 (omega (arith, ap (λ m. length m.0.told) j, ap (λ m. length m.0.logs) j, c.other.invariant.long, c.pass.invariant.long, slots)));
    }
