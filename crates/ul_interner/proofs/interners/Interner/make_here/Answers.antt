use Rattle.std.proofs.Common.{ap, sym, ◌∙◌, subst, set, rules}
use Rattle.ul_interner.specs.Logs.{AllBegin, AllKnownIn}
use Rattle.ul_interner.proofs.Lists.{knows_set, knows_trans}
use Rattle.ul_interner.proofs.Knowing.{all_stay}
use Rattle.ul_interner.proofs.interners.Interner.make_here.Goals as goal

pub find_or_add-made-requires-clause-parts : goal.find_or_add-made-requires-clause-parts
find_or_add-made-requires-clause-parts g c κs within =
    let v = c.args.seat.now.me.0 in
    let now = ap (λ z. z.logs) c.take_out-body.ensures.same.1 ∙ ap (λ z. z.0.logs) c.look.ensures.now in
    subst (λ z. AllKnownIn z c.args.parts.items) (sym now) (all_stay v.logs (set v.logs c.args.shard v.hand) (knows_set v.logs c.args.shard v.hand (search rules) c.look.ensures.longer) c.args.parts.items c.requires.parts)

pub returns-clause-knows : goal.returns-clause-knows
returns-clause-knows g c =
    let v = c.args.seat.now.me.0 in
    let now = ap (λ z. z.logs) c.take_out-body.ensures.same.1 ∙ ap (λ z. z.0.logs) c.look.ensures.now in
    knows_trans v.logs (set v.logs c.args.shard v.hand) c.put_in.new.seat.me.0.logs (knows_set v.logs c.args.shard v.hand (search rules) c.look.ensures.longer)
    (subst (λ z. AllBegin z c.put_in.new.seat.me.0.logs) now (subst (AllBegin c.take_out-body.new.seat.me.0.logs) (sym (ap (λ z. z.logs) c.put_in.ensures.same.1)) c.find_or_add-made.ensures.knows))
