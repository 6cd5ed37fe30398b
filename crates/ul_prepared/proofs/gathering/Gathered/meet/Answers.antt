use Rattle.std.proofs.Common.{sym, subst, ◌∙◌}
use Rattle.std.specs.Prelude.{All, Contains}
use Rattle.std.proofs.lemmas.List.Elements.{All-push}
use Rattle.ul_prepared.specs.Gathered.{IsPlacedNode}
use Rattle.ul_prepared.proofs.Taken.{base_is, node_put, node_stays, seen_more}
use Rattle.ul_prepared.proofs.gathering.Gathered.meet.Goals as goal

-- without an extra
pub returns-then-is_none-clause-taken : goal.returns-then-is_none-clause-taken
returns-then-is_none-clause-taken c =
    subst (Contains c.meet_name.new.self.nodes.items) (sym (base_is c.args.node.now c.is_none.result c.is_none.ensures c.if-is_none.true))
    (c.in_ok-meet_name.ensures.gathered.based c.args.node.now.name c.in_ok-meet_name.ensures.placed)

-- seen before
pub returns-then-contains-clause-taken : goal.returns-then-contains-clause-taken
returns-then-contains-clause-taken c = c.in_ok-meet_name.ensures.gathered.seen c.args.node.now (sym c.contains.ensures ∙ c.if-contains.true)

pub returns-clause-gathered : goal.returns-clause-gathered
returns-clause-gathered c =
    let was = c.in_ok-meet_name.ensures.gathered in
    let nodes = c.meet_name.new.self.nodes.items in
    let after = c.push.new.self.items in
    let placed = IsPlacedNode c.meet_name.new.self.places in
    record {
      known = was.known;
      places = was.places;
      placed = subst (All placed) (sym c.in_ok-push.ensures.items)
          (All-push placed nodes c.in_ok-own.own was.placed (subst placed (sym c.in_ok-own.ensures) c.in_ok-meet_name.ensures.placed));
      based = λ n h. node_stays nodes after c.in_ok-own.own _ c.in_ok-push.ensures.items (was.based n h);
      seen = seen_more c.meet_name.new.self.seen c.insert.new.self c.in_ok-own-2.own (λ n. c.in_ok-insert.ensures.updates.0 n) after
          (subst (Contains after) (c.in_ok-own.ensures ∙ sym c.in_ok-own-2.ensures) (node_put nodes after c.in_ok-own.own c.in_ok-push.ensures.items))
          (λ n e. node_stays nodes after c.in_ok-own.own n c.in_ok-push.ensures.items (was.seen n e));
    }

pub returns-clause-more : goal.returns-clause-more
returns-clause-more c = record {
  nodes = λ n h. node_stays c.meet_name.new.self.nodes.items c.push.new.self.items c.in_ok-own.own n c.in_ok-push.ensures.items (c.in_ok-meet_name.ensures.more.nodes n h);
  releases = λ k r e. c.in_ok-meet_name.ensures.more.releases k r e;
}

pub returns-clause-taken : goal.returns-clause-taken
returns-clause-taken c = subst (Contains c.push.new.self.items) c.in_ok-own.ensures (node_put c.meet_name.new.self.nodes.items c.push.new.self.items c.in_ok-own.own c.in_ok-push.ensures.items)
