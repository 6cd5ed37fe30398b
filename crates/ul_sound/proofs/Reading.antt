-- The merged lock says what its leaves say.
use Rattle.std.proofs.Common.{◌≡◌, ℕ, List, [], true, Option, Some, None, Contains, refl, sym, ap, ◌∙◌, subst, inl}
use Rattle.ul_version.specs.Fields.{Fields}
use Rattle.ul_comparison.specs.Worlds.{WorldFields, IsWorld}
use Rattle.ul_requirement.specs.Truth.{with_extra}
use Rattle.ul_nodes.specs.Plain.{Plain}
use Rattle.ul_nodes.specs.Reduced.{IsReduced}
use Rattle.ul_tree.specs.Values.{tree_holds, value_of}
use Rattle.ul_tree.proofs.ForCallers.{simplify_laws}
use Rattle.ul_index.specs.Catalogs.{Packages}
use Rattle.ul_project.specs.Fields.{ProjectFields}
use Rattle.ul_lock.specs.declared.parts.Edge.{Edge}
use Rattle.ul_lock.specs.declared.parts.Extra.{Extra}
use Rattle.ul_lock.specs.declared.parts.Locked.{Locked}
use Rattle.ul_lock.specs.declared.parts.Lock.{Lock}
use Rattle.ul_lock.specs.Walk.{Pick, IsEdgeOf, HasPackage, HasEdge, WalkLeads}
use Rattle.ul_sound.specs.Leaves.{LeafFields, IsChosen, HasPair, supported_by}
use Rattle.ul_sound.specs.Merged.{Pair, IsSimplified, IsTrueEdge, edge_key, block_key, IsRightEdge, AreEdgesOf, IsBlock, IsMergedLock}

-- in the supported region a simplified marker has its truth
pub truth_from : (Truth : WorldFields → Type 0) (s m : Plain) (w : WorldFields) → IsReduced s → IsSimplified Truth s m → IsWorld w → tree_holds s w [] ≡ true → tree_holds m w [] ≡ true → Truth w
truth_from Truth s m w r h is within e = (h.truth w [] is).0 (sym (simplify_laws.agrees h.tree s m h.reduced r h.simplifies (value_of w []) within) ∙ e)

pub truth_to : (Truth : WorldFields → Type 0) (s m : Plain) (w : WorldFields) → IsReduced s → IsSimplified Truth s m → IsWorld w → tree_holds s w [] ≡ true → Truth w → tree_holds m w [] ≡ true
truth_to Truth s m w r h is within t = simplify_laws.agrees h.tree s m h.reduced r h.simplifies (value_of w []) within ∙ (h.truth w [] is).1 t

module _ (c : Packages) (p : ProjectFields) (leaves : List LeafFields) (l : Lock) (reduced : IsReduced p.region) (merged : IsMergedLock c p leaves l) where
  abbrev Edges : Pick → List Edge → Type 0
  Edges n es = AreEdgesOf c leaves p.region n es

  pub package_from : (n : List ℕ) (v : Fields) → HasPackage l n v → HasPair leaves n v
  package_from n v h = subst (λ (i : Pair). HasPair leaves i.0 i.1) (λ i. (h.named i, h.at i)) (merged.packages.wanted h.block h.listed)

  block_to : (n : List ℕ) (v : Fields) → HasPair leaves n v → (b : Locked) × Contains l.packages b × (block_key b ≡ (n, v))
  block_to n v h = merged.packages.each (n, v) h

  has_block : (n : List ℕ) (v : Fields) (b : Locked) → Contains l.packages b → block_key b ≡ (n, v) → HasPackage l n v
  has_block n v b m e = record { block = b; listed = m; named = ap (λ (x : Pair). x.0) e; at = ap (λ (x : Pair). x.1) e }

  pub package_to : (n : List ℕ) (v : Fields) → HasPair leaves n v → HasPackage l n v
  package_to n v h = let b : (b : Locked) × Contains l.packages b × (block_key b ≡ (n, v)) = block_to n v h in has_block n v b.0 b.1 b.2

  -- the list that has the edge, which is that of the node
  edges_from : (b : Locked) (x : Option (List ℕ)) (e : Edge) → IsBlock c p leaves b → IsEdgeOf b x e → (es : List Edge) × Edges (record { name = b.name; extra = x }, b.version) es × Contains es e
  edges_from b None e h m = (b.edges, h.edges, m)
  edges_from b (Some x) e h m = (m.0.edges, subst (λ (a : List ℕ). Edges (with_extra b.name a, b.version) m.0.edges) m.2 (h.extras.right m.0 m.1), m.3)

  -- the list of a node that some leaf chose
  edges_to : (b : Locked) (x : Option (List ℕ)) → IsBlock c p leaves b → IsChosen leaves (record { name = b.name; extra = x }) b.version
      → (es : List Edge) × Edges (record { name = b.name; extra = x }, b.version) es × ((e : Edge) → Contains es e → IsEdgeOf b x e)
  edges_to b None h m = (b.edges, h.edges, λ e k. k)
  edges_to b (Some x) h m =
      let y : (y : Extra) × Contains b.extras y × (y.name ≡ x) = h.extras.each x (inl m) in
      (y.0.edges, subst (λ (a : List ℕ). Edges (with_extra b.name a, b.version) y.0.edges) y.2 (h.extras.right y.0 y.1), λ e k. (y.0, y.1, y.2, k))

  -- an edge of the lock says where it is true, and it is true somewhere
  pub record IsListed (n : Pick) (e : Edge) : Type 0 where
    pub right : IsRightEdge c leaves p.region n e
    pub somewhere : (w : WorldFields) × IsWorld w × IsTrueEdge c leaves n (edge_key e) w

  pub edge_from : (n : Pick) (e : Edge) → HasEdge l n e → IsListed n e
  edge_from n e h =
      let b : Locked = h.from.block in
      let es : (es : List Edge) × Edges (record { name = b.name; extra = n.0.extra }, b.version) es × Contains es e = edges_from b n.0.extra e (merged.packages.right b h.from.listed) h.edge in
      let own : Edges n es.0 = subst (λ (i : Pair). Edges (record { name = i.0; extra = n.0.extra }, i.1) es.0) (λ i. (h.from.named i, h.from.at i)) es.1 in
      record { right = own.right e es.2; somewhere = own.wanted e es.2 }

  pub leads_from : (n q : Pick) (w : WorldFields) → IsWorld w → supported_by p w ≡ true → WalkLeads l w n q → IsTrueEdge c leaves n q w
  leads_from n q w is within h =
      let t : IsTrueEdge c leaves n (edge_key h.0) w = truth_from (IsTrueEdge c leaves n (edge_key h.0)) p.region h.0.marker w reduced (edge_from n h.0 h.1).right is within h.2 in
      subst (λ (k : Pick). IsTrueEdge c leaves n k w) (λ i. (h.3 i, h.4 i)) t

  pub leads_to : (n q : Pick) (w : WorldFields) → IsWorld w → supported_by p w ≡ true → IsTrueEdge c leaves n q w → WalkLeads l w n q
  unfolding has_block
  leads_to n q w is within h =
      let mine : IsChosen leaves n.0 n.1 = (h.leaf, h.listed, h.source) in
      let b : (b : Locked) × Contains l.packages b × (block_key b ≡ (n.0.name, n.1)) = block_to n.0.name n.1 (n.0, refl, mine) in
      let es : (es : List Edge) × Edges (record { name = b.0.name; extra = n.0.extra }, b.0.version) es × ((e : Edge) → Contains es e → IsEdgeOf b.0 n.0.extra e) =
      edges_to b.0 n.0.extra (merged.packages.right b.0 b.1) (subst (λ (i : Pair). IsChosen leaves (record { name = i.0; extra = n.0.extra }) i.1) (sym b.2) mine) in
      let own : Edges n es.0 = subst (λ (i : Pair). Edges (record { name = i.0; extra = n.0.extra }, i.1) es.0) b.2 es.1 in
      let e : (e : Edge) × Contains es.0 e × (edge_key e ≡ q) = own.each q (w, is, h) in
      let here : IsTrueEdge c leaves n (edge_key e.0) w = subst (λ (k : Pick). IsTrueEdge c leaves n k w) (sym e.2) h in (
        e.0,
        record { from = has_block n.0.name n.1 b.0 b.1 b.2; edge = es.2 e.0 e.1 },
        truth_to (IsTrueEdge c leaves n (edge_key e.0)) p.region e.0.marker w reduced (own.right e.0 e.1) is within here,
        ap (λ (x : Pick). x.0) e.2,
        ap (λ (x : Pick). x.1) e.2,
      )
