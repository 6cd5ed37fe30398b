use Rattle.std.proofs.Common.{◌≡◌, length, sym, ap, ◌∙◌, subst, ◌%◌}
use Rattle.std.specs.List.{slice_get}
use Rattle.ul_interner.specs.Marked.{mark_with}
use Rattle.ul_interner.specs.Logs.{AllBegin, KnownIn}
use Rattle.ul_interner.specs.Marked.{IsMade}
use Rattle.ul_interner.proofs.Grown.{id_in}
use Rattle.ul_interner.proofs.Making.{new_hash, new_parts, new_fresh, new_knows, new_made}
use Rattle.ul_interner.proofs.interners.Interner.add.Goals as goal

pub grow_by-requires-clause-here : goal.grow_by-requires-clause-here
grow_by-requires-clause-here g c κs within = let r = c.requires in let v = c.args.seat.now.me.0 in let x = c.in_ok-mark.mark in
    let is : mark_with c.args.label c.args.shard (length v.hand) c.args.hash c.args.parts.items ≡ x = ap (λ z. mark_with c.args.label c.args.shard (length z) c.args.hash c.args.parts.items) (sym r.body) ∙ sym c.in_ok-mark.ensures.made in
    ap (λ z. z % c.args.self.now.slots) (new_hash g.L.Label.hash_of c.args.self.now.slots c.args.shard v c.args.label c.args.parts.items r.looked r.parts c.args.hash x is r.hash).1 ∙ r.here

pub grow_by-requires-clause-hash : goal.grow_by-requires-clause-hash
grow_by-requires-clause-hash g c κs within = let r = c.requires in let v = c.args.seat.now.me.0 in let x = c.in_ok-mark.mark in
    let is : mark_with c.args.label c.args.shard (length v.hand) c.args.hash c.args.parts.items ≡ x = ap (λ z. mark_with c.args.label c.args.shard (length z) c.args.hash c.args.parts.items) (sym r.body) ∙ sym c.in_ok-mark.ensures.made in
    (new_hash g.L.Label.hash_of c.args.self.now.slots c.args.shard v c.args.label c.args.parts.items r.looked r.parts c.args.hash x is r.hash).0

pub grow_by-requires-clause-id : goal.grow_by-requires-clause-id
grow_by-requires-clause-id g c κs within =
    id_in c.args.label c.args.shard (length c.args.body.now) c.args.hash c.args.parts.items c.in_ok-mark.mark (sym c.in_ok-mark.ensures.made) ∙ ap (λ z. (c.args.shard, length z)) c.requires.body

pub grow_by-requires-clause-fresh : goal.grow_by-requires-clause-fresh
grow_by-requires-clause-fresh g c κs within = let r = c.requires in let v = c.args.seat.now.me.0 in let x = c.in_ok-mark.mark in
    let is : mark_with c.args.label c.args.shard (length v.hand) c.args.hash c.args.parts.items ≡ x = ap (λ z. mark_with c.args.label c.args.shard (length z) c.args.hash c.args.parts.items) (sym r.body) ∙ sym c.in_ok-mark.ensures.made in
    new_fresh g.L.Label.hash_of c.args.self.now.slots c.args.shard v c.args.label c.args.parts.items r.looked r.parts c.args.hash x is (λ i m e. r.fresh i m (ap (λ z. slice_get z i) r.body ∙ e))

pub grow_by-requires-clause-parts : goal.grow_by-requires-clause-parts
grow_by-requires-clause-parts g c κs within = let r = c.requires in let v = c.args.seat.now.me.0 in let x = c.in_ok-mark.mark in
    let is : mark_with c.args.label c.args.shard (length v.hand) c.args.hash c.args.parts.items ≡ x = ap (λ z. mark_with c.args.label c.args.shard (length z) c.args.hash c.args.parts.items) (sym r.body) ∙ sym c.in_ok-mark.ensures.made in
    new_parts g.L.Label.hash_of c.args.self.now.slots c.args.shard v c.args.label c.args.parts.items r.looked r.parts c.args.hash x is

pub returns-clause-knows : goal.returns-clause-knows
returns-clause-knows g c = let r = c.requires in let v = c.args.seat.now.me.0 in let x = c.in_ok-mark.mark in
    let is : mark_with c.args.label c.args.shard (length v.hand) c.args.hash c.args.parts.items ≡ x = ap (λ z. mark_with c.args.label c.args.shard (length z) c.args.hash c.args.parts.items) (sym r.body) ∙ sym c.in_ok-mark.ensures.made in
    subst (AllBegin v.logs) (sym (ap (λ m. m.0.logs) c.grow_by.ensures.now)) (new_knows g.L.Label.hash_of c.args.self.now.slots c.args.shard v c.args.label c.args.parts.items r.looked r.parts c.args.hash x is)

pub returns-clause-made : goal.returns-clause-made
returns-clause-made g c = let r = c.requires in let v = c.args.seat.now.me.0 in let x = c.in_ok-mark.mark in
    let is : mark_with c.args.label c.args.shard (length v.hand) c.args.hash c.args.parts.items ≡ x = ap (λ z. mark_with c.args.label c.args.shard (length z) c.args.hash c.args.parts.items) (sym r.body) ∙ sym c.in_ok-mark.ensures.made in
    subst (λ z. IsMade c.args.label c.args.parts.items x × KnownIn z x) (sym (ap (λ m. m.0.logs) c.grow_by.ensures.now))
    (new_made g.L.Label.hash_of c.args.self.now.slots c.args.shard v c.args.label c.args.parts.items r.looked r.parts c.args.hash x is)
