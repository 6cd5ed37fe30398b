-- A lock that leaves merge into asks no opaque comparisons but those that its project and its documents ask.
use Rattle.std.proofs.Common.{◌≡◌, ◌∙◌, ◌++◌, List, [], ◌∷◌, true, flat_map, sym, subst}
use Rattle.std.specs.Prelude.{Contains}
use Rattle.std.proofs.lemmas.Bool.Decides.{Decides-like, same_from_decides}
use Rattle.std.proofs.lemmas.List.Elements.{Contains-append_left}
use Rattle.ul_base.proofs.ForCallers.{contains_first, contains_later, none_in}
use Rattle.ul_comparison.specs.Atoms.{AtomFields}
use Rattle.ul_comparison.specs.Worlds.{WorldFields, IsWorld}
use Rattle.ul_marker.specs.Parts.{atoms_of}
use Rattle.ul_specifier.specs.Clauses.{ClauseFields}
use Rattle.ul_requirement.specs.Fields.{PackageFields}
use Rattle.ul_requirement.specs.Truth.{base, with_extra}
use Rattle.ul_nodes.specs.Plain.{Plain, truth}
use Rattle.ul_tree.specs.Regions.{HasTruth}
use Rattle.ul_tree.specs.Simplify.{Simplifies, anywhere}
use Rattle.ul_tree.specs.Values.{tree_holds}
use Rattle.ul_index.specs.Catalogs.{Packages}
use Rattle.ul_load.specs.Loading.{atoms_in, requirements_of}
use Rattle.ul_project.specs.Fields.{ProjectFields}
use Rattle.ul_project.specs.Region.{is_supported}
use Rattle.ul_lock.specs.declared.parts.Edge.{Edge}
use Rattle.ul_lock.specs.declared.parts.Locked.{Locked}
use Rattle.ul_lock.specs.declared.parts.Lock.{Lock}
use Rattle.ul_lock.specs.Walk.{Pick}
use Rattle.ul_filter.specs.Comparisons.{edge_atoms, extra_atoms, lock_atoms, package_atoms, tree_atoms}
use Rattle.ul_sound.specs.Leaves.{LeafFields}
use Rattle.ul_sound.specs.Merged.{AreBlocks, AreEdgesOf, AreForks, AreSimplified, IsBlock, IsMergedLock, IsRightEdge, IsTrueEdge, edge_key}
use Rattle.laws_comparisons.specs.Comparisons.{HaveAlike, asked_atoms, with_truths}
use Rattle.laws_comparisons.proofs.Asked.{AreAsked, asks_itself, joined, joined_all}
use Rattle.laws_comparisons.proofs.Catalogs.{CatalogAsks}
use Rattle.laws_comparisons.proofs.OfTrees.{simpler_asks}
use Rattle.laws_comparisons.proofs.Looking.{LooksThere, of_truth}
use Rattle.laws_comparisons.proofs.Truths.{requirement_looks, supported_looks}

module _ (asked : List AtomFields) (c : Packages) (listed : CatalogAsks asked c) (leaves : List LeafFields)
    (regions : (l : LeafFields) → Contains leaves l → LooksThere asked l.region) where
  -- ---- edges

  -- an edge that is true in a world is true in one that differs in other comparisons alone
  edge_there : (p q : Pick) (w : WorldFields) (ts : List AtomFields) → IsWorld w → IsWorld (with_truths w ts) → HaveAlike asked w.truths ts
      → IsTrueEdge c leaves p q w → IsTrueEdge c leaves p q (with_truths w ts)
  edge_there p q w ts world other alike h = record {
    leaf = h.leaf;
    listed = h.listed;
    within = sym ((regions h.leaf h.listed).looks [] w ts world other alike) ∙ h.within;
    source = h.source;
    target = h.target;
    requirement = h.requirement;
    applied = h.applied;
    aimed = h.aimed;
    holds = sym (requirement_looks asked h.requirement p.0 (listed p.0.name p.1 h.requirement h.applied.listed) w ts world other alike) ∙ h.holds;
  }

  edge_back : (p q : Pick) (w : WorldFields) (ts : List AtomFields) → IsWorld w → IsWorld (with_truths w ts) → HaveAlike asked w.truths ts
      → IsTrueEdge c leaves p q (with_truths w ts) → IsTrueEdge c leaves p q w
  edge_back p q w ts world other alike h = record {
    leaf = h.leaf;
    listed = h.listed;
    within = (regions h.leaf h.listed).looks [] w ts world other alike ∙ h.within;
    source = h.source;
    target = h.target;
    requirement = h.requirement;
    applied = h.applied;
    aimed = h.aimed;
    holds = requirement_looks asked h.requirement p.0 (listed p.0.name p.1 h.requirement h.applied.listed) w ts world other alike ∙ h.holds;
  }

  edge_asks : (supported : Plain) (p : Pick) (e : Edge) → IsRightEdge c leaves supported p e → AreAsked asked (tree_atoms e.marker)
  edge_asks supported p e h =
      let q = edge_key e in
      simpler_asks asked h.tree supported e.marker h.reduced
      (λ x w ts world other alike. same_from_decides (tree_holds h.tree w x) (tree_holds h.tree (with_truths w ts) x) (h.truth w x world)
      (Decides-like (tree_holds h.tree (with_truths w ts) x) (edge_back p q w ts world other alike) (edge_there p q w ts world other alike)
      (h.truth (with_truths w ts) x other))) h.simplifies

  edges_ask : (supported : Plain) (p : Pick) (es : List Edge) → AreEdgesOf c leaves supported p es → AreAsked asked (edge_atoms es)
  edges_ask supported p es h =
      joined_all (λ (e : Edge). tree_atoms e.marker) asked es (λ e m. edge_asks supported p e (h.right e m))

  -- ---- packages

  package_asks : (p : ProjectFields) (b : Locked) → IsBlock c p leaves b → AreAsked asked (package_atoms b)
  package_asks p b h =
      joined asked (edge_atoms b.edges) (flat_map extra_atoms b.extras) (edges_ask p.region (base b.name, b.version) b.edges h.edges)
      (joined_all extra_atoms asked b.extras (λ x m. edges_ask p.region (with_extra b.name x.name, b.version) x.edges (h.extras.right x m)))

  packages_ask : (p : ProjectFields) (bs : List Locked) → AreBlocks c p leaves bs → AreAsked asked (flat_map package_atoms bs)
  packages_ask p bs h = joined_all package_atoms asked bs (λ b m. package_asks p b (h.right b m))

  -- ---- forks

  fork_asks : (supported : Plain) (l : LeafFields) (t : Plain) → Contains leaves l → Simplifies l.region supported t → AreAsked asked (tree_atoms t)
  fork_asks supported l t m s = let there = regions l m in simpler_asks asked l.region supported t there.reduced there.looks s

  simplified_ask : (supported : Plain) (ls : List LeafFields) (ts : List Plain) → ((l : LeafFields) → Contains ls l → Contains leaves l)
      → AreSimplified supported ls ts → AreAsked asked (flat_map tree_atoms ts)
  simplified_ask supported [] ts own h = subst (λ (us : List Plain). AreAsked asked (flat_map tree_atoms us)) (sym h) (λ a m. absurd (none_in a m))
  simplified_ask supported (l ∷ ls) [] own h = absurd h
  simplified_ask supported (l ∷ ls) (t ∷ ts) own h =
      joined asked (tree_atoms t) (flat_map tree_atoms ts) (fork_asks supported l t (own l (contains_first l ls)) h.0)
      (simplified_ask supported ls ts (λ k m. own k (contains_later l ls k m)) h.1)

  no_forks : (ts : List Plain) → ts ≡ [] → AreAsked asked (flat_map tree_atoms ts)
  no_forks ts e = subst (λ (us : List Plain). AreAsked asked (flat_map tree_atoms us)) (sym e) (λ a m. absurd (none_in a m))

  forks_ask : (supported : Plain) (ls : List LeafFields) (ts : List Plain) → ((l : LeafFields) → Contains ls l → Contains leaves l)
      → AreForks supported ls ts → AreAsked asked (flat_map tree_atoms ts)
  forks_ask supported [] ts own h = no_forks ts h
  forks_ask supported (l ∷ []) ts own h = no_forks ts h
  forks_ask supported (l ∷ k ∷ ls) ts own h = simplified_ask supported (l ∷ k ∷ ls) ts own h

  -- ---- the lock

  supported_asks : (t : Plain) → LooksThere asked t → AreAsked asked (tree_atoms t)
  supported_asks t there = simpler_asks asked t (truth true) t there.reduced there.looks anywhere

  pub lock_asks : (p : ProjectFields) (l : Lock) → LooksThere asked p.region → IsMergedLock c p leaves l → AreAsked asked (lock_atoms l)
  lock_asks p l there h =
      joined asked (tree_atoms l.supported) (flat_map tree_atoms l.forks ++ flat_map package_atoms l.packages)
      (subst (λ (t : Plain). AreAsked asked (tree_atoms t)) (sym h.supported) (supported_asks p.region there))
      (joined asked (flat_map tree_atoms l.forks) (flat_map package_atoms l.packages)
      (forks_ask p.region leaves l.forks (λ k m. m) h.forks) (packages_ask p l.packages h.packages))

-- the region that a project supports looks at what its environments ask
pub region_looks : (p : ProjectFields) (c : Packages) (python : List ClauseFields) → HasTruth p.region (is_supported python p.environments)
    → LooksThere (asked_atoms p c) p.region
region_looks p c python h =
    let all = λ (found : PackageFields). atoms_in (requirements_of found.releases) in
    of_truth (asked_atoms p c) p.region (is_supported python p.environments) h
    (supported_looks (asked_atoms p c) python p.environments
    (asks_itself (asked_atoms p c) (flat_map atoms_of p.environments) (λ a m. Contains-append_left (flat_map atoms_of p.environments) (flat_map all c) a m)))
