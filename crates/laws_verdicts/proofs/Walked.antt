-- Where a package of a lock and its nodes are reached: these statements have trees. Only nodes that have a route of the
-- package are reached.
use Rattle.std.specs.Prelude.{flat_map}
use Rattle.std.proofs.Common.{◌≡◌, ℕ, List, [], Bool, true, false, cond, map, Option, Some, None, Contains, bytes_eq}
use Rattle.std.proofs.Common.{refl, sym, ap, ◌∙◌, subst}
use Rattle.std.proofs.lemmas.Slice.Eq.{bytes_eq-Decides}
use Rattle.ul_base.specs.declared.node.Node.{Node}
use Rattle.ul_base.proofs.ForCallers.{contains_flat, contains_from_flat, contains_map, none_in}
use Rattle.ul_comparison.specs.Worlds.{WorldFields}
use Rattle.ul_tree.proofs.ForCallers.{no_extra}
use Rattle.ul_index.specs.Catalogs.{Packages}
use Rattle.ul_project.specs.Fields.{IsProject, ProjectFields}
use Rattle.ul_lock.specs.declared.parts.Edge.{Edge}
use Rattle.ul_lock.specs.declared.parts.Extra.{Extra}
use Rattle.ul_lock.specs.declared.parts.Lock.{Lock}
use Rattle.ul_lock.specs.declared.parts.Locked.{Locked}
use Rattle.ul_lock.specs.Walk.{HasEdge, IsEdgeOf, Pick, Walk, edge_holds}
use Rattle.ul_lock.specs.WellFormed.{IsEdge, IsWellFormed}
use Rattle.ul_lock_nodes.specs.Roots.{root_lists}
use Rattle.ul_lock_nodes.specs.Routes.{Route, block_routes, routes_of}
use Rattle.ul_lock_nodes.proofs.ForCallers.{IsRouteOf, block_route, contains_at, is_edge, walk_stands}
use Rattle.ul_verified.specs.Verified.{IsPackageReached, IsReachedOf}
use Rattle.ul_verified.proofs.ForCallers.{one_block}
use Rattle.laws_trees.specs.Trees.{AreRequirements, TruthTrees}
use Rattle.laws_walks.specs.Exists.{ReachTreeExists}
use Rattle.laws_trees.proofs.ForCallers.{HasTreeOf, decided_tree, some_known, text_decided, trees_kept, truth_tree}

-- what is known of a lock that is judged: the laws of trees, and that its root has the project's extras
pub record Setting (c : Packages) (p : ProjectFields) (l : Lock) : Type 0 where
  pub trees : TruthTrees
  pub walks : ReachTreeExists
  pub requirements : AreRequirements c
  pub project : IsProject p
  pub formed : IsWellFormed l
  pub known : (x : List ℕ) → Contains p.extras x → root_lists l x ≡ true

-- ---- nodes and edges of a package

-- the node of a route
abbrev node_in : Route → Node
node_in r = r.0.0

-- the nodes of a package
abbrev pub nodes_of : Locked → List Node
nodes_of b = map node_in (block_routes b)

-- the extra's edges, if it has the name
abbrev edges_named : List ℕ → Extra → List Edge
edges_named x y = cond (bytes_eq y.name x) y.edges []

-- the edges of a package's base, or of an extra of it
abbrev pub edges_at : Locked → Option (List ℕ) → List Edge
edges_at b None = b.edges
edges_at b (Some x) = flat_map (edges_named x) b.extras

kept_edge : (t : Bool) (es : List Edge) (e : Edge) → Contains (cond t es []) e → (t ≡ true) × Contains es e
kept_edge true es e m = (refl, m)
kept_edge false es e m = absurd (none_in e m)

pub edge_among : (b : Locked) (x : Option (List ℕ)) (e : Edge) → IsEdgeOf b x e → Contains (edges_at b x) e
edge_among b None e m = m
edge_among b (Some x) e z =
    let own : bytes_eq z.0.name x ≡ true = (bytes_eq-Decides z.0.name x).1 z.2 in
    let kept = subst (λ (t : Bool). Contains (cond t z.0.edges []) e) (sym own) z.3 in
    contains_flat (edges_named x) b.extras z.0 e z.1 kept

pub edge_from : (b : Locked) (x : Option (List ℕ)) (e : Edge) → Contains (edges_at b x) e → IsEdgeOf b x e
edge_from b None e m = m
edge_from b (Some x) e m =
    let z : (y : Extra) × Contains b.extras y × Contains (edges_named x y) e =
    contains_from_flat (edges_named x) b.extras e m in
    let k : (bytes_eq z.0.name x ≡ true) × Contains z.0.edges e =
    kept_edge (bytes_eq z.0.name x) z.0.edges e z.2 in
    (z.0, z.1, (bytes_eq-Decides z.0.name x).0 k.0, k.1)

-- ---- what is reached

module _ (c : Packages) (p : ProjectFields) (l : Lock) (s : Setting c p l) where
  -- where the lock gives a node
  walk_tree : (n : Pick) → HasTreeOf (λ w. Walk l w p.extras n)
  walk_tree n =
      let t = s.walks l p.extras n s.formed in
      (t.0, record { reduced = t.1.reduced; truth = t.1.truth })

  -- where a node of a package is reached
  pub node_tree : (b : Locked) (n : Node) → HasTreeOf (λ w. IsReachedOf p l w b n)
  node_tree b n =
      trees_kept.same (λ w. (n.name ≡ b.name) × Walk l w p.extras (n, b.version)) (λ w. IsReachedOf p l w b n)
      (λ w. ((λ z. record { named = z.0; reached = z.1 }), (λ h. (h.named, h.reached))))
      (trees_kept.both (λ w. n.name ≡ b.name) (λ w. Walk l w p.extras (n, b.version))
      (decided_tree (n.name ≡ b.name) (text_decided n.name b.name)) (walk_tree (n, b.version)))

  module _ (b : Locked) (listed : Contains l.packages b) where
    -- a route of the lock is one of the package's, if it has its name and version
    own_route : (r : Route) → Contains (routes_of l.packages) r → (node_in r).name ≡ b.name → r.0.1 ≡ b.version
        → Contains (block_routes b) r
    own_route r m named at =
        let z : (a : Locked) × Contains l.packages a × Contains (block_routes a) r =
        contains_from_flat block_routes l.packages r m in
        let of : IsRouteOf z.0 r = block_route z.0 r z.2 in
        let same : z.0 ≡ b =
        one_block l.packages z.0 b s.formed.packages_rise z.1 listed (sym of.name ∙ named) (sym of.version ∙ at) in
        subst (λ (a : Locked). Contains (block_routes a) r) same z.2

    -- what is reached of a package is one of its nodes
    pub reached_among : (w : WorldFields) (n : Node) → IsReachedOf p l w b n → Contains (nodes_of b) n
    reached_among w n h =
        let at = walk_stands l s.formed w p.extras s.known (n, b.version) h.reached in
        let r : Route = at.1.0 in
        let is : node_in r ≡ n = ap (λ (q : Pick). q.0) at.1.2 in
        let own : Contains (block_routes b) r =
        own_route r (contains_at (routes_of l.packages) at.0 r at.1.1) (ap (λ (m : Node). m.name) is ∙ h.named)
        (ap (λ (q : Pick). q.1) at.1.2) in
        subst (Contains (nodes_of b)) is (contains_map node_in (block_routes b) r own)

    -- where a package is reached
    pub package_tree : HasTreeOf (λ w. IsPackageReached p l w b)
    package_tree =
        trees_kept.same (λ w. (n : Node) × Contains (nodes_of b) n × IsReachedOf p l w b n)
        (λ w. IsPackageReached p l w b)
        (λ w. ((λ z. (z.0, z.2)), (λ z. (z.0, reached_among w z.0 z.1, z.1))))
        (some_known HasTreeOf trees_kept (nodes_of b) (λ n w. IsReachedOf p l w b n) (λ n m. node_tree b n))

    -- where an edge of a package holds
    pub edge_tree : (x : Option (List ℕ)) (e : Edge) → IsEdgeOf b x e → HasTreeOf (λ w. edge_holds w e ≡ true)
    edge_tree x e m =
        let n : Pick = (record { name = b.name; extra = x }, b.version) in
        let from : HasEdge l n e =
        record { from = record { block = b; listed = listed; named = refl; at = refl }; edge = m } in
        let good : IsEdge e = is_edge l s.formed n e from in
        let tree = no_extra.back e.marker good.marker.reduced good.marker.no_extra in
        truth_tree (λ w. edge_holds w e) (e.marker, tree)
