use Rattle.std.specs.Prelude.{All, Some, slice_get}
use Rattle.std.proofs.Common.{ℕ, List, ◌≡◌, ◌++◌, ◌∷◌, [], ap, arith, subst, sym, ◌∙◌}
use Rattle.std.proofs.lemmas.List.Elements.{All-push}
use Rattle.ul_requirement.specs.Truth.{base}
use Rattle.ul_prepared.specs.Gathered.{HasPlace, IsPlacedNode}
use Rattle.ul_prepared.proofs.KnownNames.{known_more}
use Rattle.ul_prepared.proofs.ListPlaces.{push_stays}
use Rattle.ul_prepared.proofs.Taken.{bases_more, node_stays, place_put, places_more, places_stay}
use Rattle.ul_prepared.proofs.gathering.Gathered.meet_name.Goals as goal

pub returns-clause-gathered : goal.returns-clause-gathered
returns-clause-gathered c =
    let old = c.args.self.now.places in
    let new = c.insert.new.self in
    let updates = λ (n : List ℕ). c.in_ok-insert.ensures.updates.0 n in
    let nodes = c.args.self.now.nodes.items in
    let node = c.in_ok-base.base in
    let names = c.push_reserved.ensures.items ∙ ap (λ z. z ++ c.in_ok-facts.facts ∷ []) c.reserve.ensures.items in
    let own = c.in_ok-base.ensures ∙ ap base (sym c.in_ok-own.ensures) in
    record {
      known = known_more c.args.sources.now.0 c.args.sources.now.1 c.args.self.now.names.items c.push_reserved.new.self.items c.args.self.now.releases.items c.push_reserved-2.new.self.items c.in_ok-facts.facts c.in_ok-facts.releases
          names (c.push_reserved-2.ensures.items ∙ ap (λ z. z ++ c.in_ok-facts.releases ∷ []) c.reserve-2.ensures.items) c.requires.known c.in_ok-facts.ensures.known;
      places = places_more old new c.in_ok-own.own _ updates c.args.self.now.names.items c.push_reserved.new.self.items c.in_ok-facts.facts names (omega (arith, c.len-place.ensures, c.args.self.now.names.ok)) (c.in_ok-facts.ensures.name ∙ sym c.in_ok-own.ensures) c.requires.places;
      placed = subst (All (IsPlacedNode new)) (sym c.in_ok-push.ensures.items)
          (All-push (IsPlacedNode new) nodes node (places_stay old new c.in_ok-own.own _ updates nodes c.requires.placed)
          (subst (IsPlacedNode new) (sym own) (place_put old new c.in_ok-own.own _ updates)));
      based = bases_more old new c.in_ok-own.own _ updates nodes c.push.new.self.items node c.in_ok-push.ensures.items own c.requires.based;
      seen = λ n e. node_stays nodes c.push.new.self.items node n c.in_ok-push.ensures.items (c.requires.seen n e);
    }

pub returns-clause-more : goal.returns-clause-more
returns-clause-more c = record {
  nodes = λ n h. node_stays c.args.self.now.nodes.items c.push.new.self.items c.in_ok-base.base n c.in_ok-push.ensures.items h;
  releases = λ k r e. subst (λ z. slice_get z k ≡ Some r) (sym (c.push_reserved-2.ensures.items ∙ ap (λ z. z ++ c.in_ok-facts.releases ∷ []) c.reserve-2.ensures.items)) (push_stays c.args.self.now.releases.items c.in_ok-facts.releases k r e);
}

pub returns-clause-placed : goal.returns-clause-placed
returns-clause-placed c = subst (HasPlace c.insert.new.self) c.in_ok-own.ensures (place_put c.args.self.now.places c.insert.new.self c.in_ok-own.own _ (λ n. c.in_ok-insert.ensures.updates.0 n))
