use Rattle.std.proofs.Common.{ap, sym, ◌∙◌, subst, map}
use Rattle.std.proofs.lemmas.Result.{IfOk-weaker}
use Rattle.std.specs.List.{slice_get}
use Rattle.ul_interner.specs.Marked.{id_of, IsNode}
use Rattle.ul_interner.specs.Logs.{KnownIn}
use Rattle.ul_interner.specs.Marked.{IsMade}
use Rattle.ul_interner.proofs.Lists.{some_is, got_below}
use Rattle.ul_interner.proofs.Making.{node_hash, found}
use Rattle.ul_interner.proofs.interners.Interner.find_or_add.Goals as goal

pub find-requires-after_bounds : goal.find-requires-after_bounds
find-requires-after_bounds g c κs le i m e node = let r = c.requires in
    node_hash g.L.Label.hash_of c.args.self.now.slots c.args.shard c.args.seat.now.me.0 c.args.label c.args.parts.items r.looked r.parts i m (ap (λ z. slice_get z i) (sym r.body) ∙ e) (node.0, node.1 ∙ ap (map id_of) c.as_slice.ensures.value) ∙ sym r.hash

pub share_at-requires-after_bounds : goal.share_at-requires-after_bounds
share_at-requires-after_bounds g c κs le = let s = c.in-Some.ensures.some in got_below c.args.body.now c.in-Some.place s.0 s.1

pub returns-in-Some-clause-made : goal.returns-in-Some-clause-made
returns-in-Some-clause-made g c =
    let r = c.requires in
    let s = c.in-Some.ensures.some in
    let v = c.args.seat.now.me.0 in
    IfOk-weaker c.share_at.result (λ m. _) (λ m. IsMade c.args.label c.args.parts.items m × KnownIn v.logs m)
    (λ m e. found g.L.Label.hash_of c.args.self.now.slots c.args.shard v c.args.label c.args.parts.items r.looked r.parts c.in-Some.place m (ap (λ z. slice_get z c.in-Some.place) (sym r.body) ∙ e)
    (subst (IsNode c.args.label c.args.parts.items) (some_is s.0 m (sym s.1 ∙ e)) (s.2.0, s.2.1 ∙ ap (map id_of) c.as_slice.ensures.value)))
    c.share_at.ensures
