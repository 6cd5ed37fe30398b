-- The nodes from which edges go out, and the steps of the walk by the routes.
use Rattle.std.proofs.Common.{◌≡◌, ℕ, List, map, true, Option, Some, None, Contains, refl, sym, ap, subst, ◌∙◌}
use Rattle.ul_base.proofs.ForCallers.{contains_first, contains_flat, contains_later, contains_map}
use Rattle.ul_comparison.specs.Worlds.{WorldFields}
use Rattle.ul_lock.specs.declared.parts.Edge.{Edge}
use Rattle.ul_lock.specs.declared.parts.Lock.{Lock}
use Rattle.ul_lock.specs.declared.parts.Locked.{Locked}
use Rattle.ul_lock.specs.Walk.{HasEdge, IsEdgeOf, Pick as NodeAt, WalkLeads, edge_holds}
use Rattle.ul_lock_nodes.specs.Routes.{Route, base_route, block_routes, extra_route, routes_of}
use Rattle.ul_lock_nodes.proofs.ForCallers.{has_edge}

-- the nodes of a lock's packages
abbrev pub nodes_of : Lock → List NodeAt
nodes_of l = map (λ (r : Route). r.0) (routes_of l.packages)

-- some route of the node has the edge
abbrev pub HasEdgeRoute : Lock → NodeAt → Edge → Type 0
HasEdgeRoute l a e = (r : Route) × Contains (routes_of l.packages) r × (r.0 ≡ a) × Contains r.1 e

-- in any lock an edge's node has a route with the edge
pub edge_route : (l : Lock) (a : NodeAt) (e : Edge) → HasEdge l a e → HasEdgeRoute l a e
edge_route l a e h = go a.0.extra refl h.edge
  where
    b : Locked
    b = h.from.block

    go : (x : Option (List ℕ)) → a.0.extra ≡ x → IsEdgeOf b a.0.extra e → HasEdgeRoute l a e
    go None q i = (
      base_route b,
      contains_flat block_routes l.packages b (base_route b) h.from.listed
          (contains_first (base_route b) (map (extra_route b) b.extras)),
      (λ j. (record { name = h.from.named j; extra = sym q j }, h.from.at j)),
      subst (λ x. IsEdgeOf b x e) q i,
    )
    go (Some x) q i = let y = subst (λ z. IsEdgeOf b z e) q i in (
      extra_route b y.0,
      contains_flat block_routes l.packages b (extra_route b y.0) h.from.listed
          (contains_later (base_route b) (map (extra_route b) b.extras) (extra_route b y.0)
          (contains_map (extra_route b) b.extras y.0 y.1)),
      (λ j. (record { name = h.from.named j; extra = (ap Some y.2 ∙ sym q) j }, h.from.at j)),
      y.3,
    )

-- what leads on is one of the nodes
pub source_listed : (l : Lock) (w : WorldFields) (a b : NodeAt) → WalkLeads l w a b → Contains (nodes_of l) a
source_listed l w a b s =
    let r = edge_route l a s.0 s.1 in
    subst (Contains (nodes_of l)) r.2 (contains_map (λ (x : Route). x.0) (routes_of l.packages) r.0 r.1)

-- the edge holds and leads to the node
abbrev pub Aims : WorldFields → NodeAt → Edge → Type 0
Aims w q e = (edge_holds w e ≡ true) × ((e.target ≡ q.0) × (e.version ≡ q.1))

-- the route is the one node's, and one of its edges holds and leads to the other
abbrev pub RouteLeads : WorldFields → NodeAt → NodeAt → Route → Type 0
RouteLeads w p q r = (r.0 ≡ p) × ((e : Edge) × Contains r.1 e × Aims w q e)

-- some route does
abbrev pub SomeRouteLeads : Lock → WorldFields → NodeAt → NodeAt → Type 0
SomeRouteLeads l w p q = (r : Route) × Contains (routes_of l.packages) r × RouteLeads w p q r

-- that is a step of the walk
pub route_step : (l : Lock) (w : WorldFields) (p q : NodeAt) → SomeRouteLeads l w p q → WalkLeads l w p q
route_step l w p q z = let e = z.2.1.0 in (
  e,
  subst (λ (a : NodeAt). HasEdge l a e) z.2.0 (has_edge l z.0 e z.1 z.2.1.1),
  z.2.1.2.0,
  z.2.1.2.1.0,
  z.2.1.2.1.1,
)

pub step_route : (l : Lock) (w : WorldFields) (p q : NodeAt) → WalkLeads l w p q → SomeRouteLeads l w p q
step_route l w p q s = let r = edge_route l p s.0 s.1 in (r.0, r.1, (r.2, (s.0, r.3, (s.2, (s.3, s.4)))))
