-- What is known of a lock's edges is known of its walk.
use Rattle.std.proofs.Common.{◌≡◌, ℕ, List, true, Some, None, Contains}
use Rattle.ul_base.specs.Reached.{Reached}
use Rattle.ul_base.specs.declared.node.Node.{Node}
use Rattle.ul_version.specs.Fields.{Fields}
use Rattle.ul_comparison.specs.Worlds.{WorldFields}
use Rattle.ul_lock.specs.declared.parts.Edge.{Edge}
use Rattle.ul_lock.specs.declared.parts.Lock.{Lock}
use Rattle.ul_lock.specs.declared.parts.Locked.{Locked}
use Rattle.ul_lock.specs.Walk.{HasPackage, IsRootNode, Pick as NodeAt, Walk, WalkBegins, WalkLeads, edge_holds}
use Rattle.ul_lock_nodes.specs.Routes.{Route, routes_of}
use Rattle.laws_trees.specs.Decided.{Decided}
use Rattle.laws_trees.proofs.ForCallers.{By, IsKept, both_decided, by_all, decided_as, either_decided, node_decided}
use Rattle.laws_trees.proofs.ForCallers.{option_decided, place_decided, reached_known, some_known, some_member}
use Rattle.laws_trees.proofs.ForCallers.{text_decided, version_decided}
use Rattle.laws_walks.proofs.Sources.{Aims, RouteLeads, SomeRouteLeads, nodes_of, route_step, source_listed}
use Rattle.laws_walks.proofs.Sources.{step_route}

-- ---- what the walk begins with

package_decided : (l : Lock) (name : List ℕ) (v : Fields) → Decided (HasPackage l name v)
package_decided l name v =
    decided_as
    (some_member (λ (b : Locked). (b.name ≡ name) × (b.version ≡ v)) l.packages
    (λ b _. both_decided (text_decided b.name name) (version_decided b.version v)))
    (λ z. record { block = z.0; listed = z.1; named = z.2.0; at = z.2.1 })
    (λ h. (h.block, h.listed, (h.named, h.at)))

root_decided : (l : Lock) (xs : List (List ℕ)) (n : Node) → Decided (IsRootNode l xs n)
root_decided l xs n =
    both_decided (text_decided n.name l.root)
    (either_decided (option_decided text_decided n.extra None)
    (some_member (λ (x : List ℕ). n.extra ≡ Some x) xs (λ x _. option_decided text_decided n.extra (Some x))))

begins_decided : (l : Lock) (xs : List (List ℕ)) (p : NodeAt) → Decided (WalkBegins l xs p)
begins_decided l xs p = both_decided (package_decided l l.root p.1) (root_decided l xs p.0)

-- ---- the walk

module _ (Known : (WorldFields → Type 0) → Type 0) (kept : IsKept Known)
    (decided : (P : Type 0) → Decided P → Known (λ w. P)) (l : Lock)
    (holds : (r : Route) (e : Edge) → Contains (routes_of l.packages) r → Contains r.1 e
    → Known (λ w. edge_holds w e ≡ true)) where
  aims_known : (q : NodeAt) (r : Route) (e : Edge) → Contains (routes_of l.packages) r → Contains r.1 e
      → Known (λ w. Aims w q e)
  aims_known q r e c d =
      kept.both (λ w. edge_holds w e ≡ true) (λ w. (e.target ≡ q.0) × (e.version ≡ q.1)) (holds r e c d)
      (decided ((e.target ≡ q.0) × (e.version ≡ q.1))
      (both_decided (node_decided e.target q.0) (version_decided e.version q.1)))

  route_known : (p q : NodeAt) (r : Route) → Contains (routes_of l.packages) r → Known (λ w. RouteLeads w p q r)
  route_known p q r c = kept.both (λ w. r.0 ≡ p) (λ w. (e : Edge) × Contains r.1 e × Aims w q e)
      (decided (r.0 ≡ p) (place_decided r.0 p))
      (some_known Known kept r.1 (λ e w. Aims w q e) (λ e d. aims_known q r e c d))

  leads_known : (p q : NodeAt) → Known (λ w. WalkLeads l w p q)
  leads_known p q = kept.same (λ w. SomeRouteLeads l w p q) (λ w. WalkLeads l w p q)
      (λ w. (route_step l w p q, step_route l w p q))
      (some_known Known kept (routes_of l.packages) (λ r w. RouteLeads w p q r) (λ r c. route_known p q r c))

  pub walk_known : (xs : List (List ℕ)) (q : NodeAt) → Known (λ w. Walk l w xs q)
  walk_known xs q =
      kept.same (λ w. Reached (WalkBegins l xs) (By (nodes_of l) (WalkLeads l w)) q) (λ w. Walk l w xs q)
      (λ w. by_all (WalkLeads l w) (WalkBegins l xs) (nodes_of l) (λ a b _. source_listed l w a b) q)
      (reached_known Known kept (λ w. WalkLeads l w) leads_known (nodes_of l) (λ w. WalkBegins l xs)
      (λ p. decided (WalkBegins l xs p) (begins_decided l xs p)) q)
