-- A region that has a tree has a problem.
use Rattle.std.proofs.Common.{◌≡◌, ℕ, suc, List, [], ◌∷◌, length, map, Option, Some, None, refl, sym, ap, subst, ◌∙◌, ⊎_elim}
use Rattle.std.specs.Prelude.{Contains, slice_get}
use Rattle.std.specs.List.{AllZip}
use Rattle.std.proofs.lemmas.Option.{none-some}
use Rattle.ul_base.specs.Nodes.{node_cmp, node_cmp-total}
use Rattle.ul_base.specs.Reached.{Reached, begun}
use Rattle.ul_base.specs.declared.node.Node.{Node}
use Rattle.ul_base.proofs.ForCallers.{contains_cases, contains_first, contains_from_map, contains_later}
use Rattle.ul_problem.specs.Plain.{Plain, base_in, size_in}
use Rattle.ul_problem.specs.Problems.{AllAre, AreOneBase, Increases, IncreasesFrom, IsExtraOf, IsNodeOf, IsSingle, IsWellFormed, NodeBefore, PlaceBefore}
use Rattle.ul_problem.specs.declared.problem.NodeFacts.{NodeFacts}
use Rattle.ul_requirement.specs.Fields.{WishFields}
use Rattle.ul_requirement.specs.Truth.{base, base_of, with_extra}
use Rattle.ul_index.specs.Catalogs.{Packages}
use Rattle.ul_index.specs.Eligible.{eligible}
use Rattle.ul_index.specs.Laws.{EligibleRises, PreferenceSame}
use Rattle.ul_index.specs.Regions.{Region}
use Rattle.ul_region.specs.Problem.{AreAt, IsProblemOf, Leads}
use Rattle.laws_problems.specs.Exists.{IsAskedOf, ProblemExists}
use Rattle.laws_trees.specs.Trees.{TruthTrees}
use Rattle.laws_trees.specs.Decided.{RegionsDecide}
use Rattle.ul_placing.proofs.Lists.{listed_at, place_of}
use Rattle.ul_placing.proofs.Rising.{IsNodeLess, not_back, not_itself, places_rise, starts_increase}
use Rattle.laws_problems.proofs.Drafting.{IsBasePlace, IsDraft, drafts_exist}
use Rattle.laws_problems.proofs.Leading.{AreNodes, nodes_exist}
use Rattle.laws_problems.proofs.Preferring.{eligible_increases}
use Rattle.laws_problems.proofs.SingleVersion.{project_single}
use Rattle.laws_problems.proofs.Standing.{facts_at, facts_right, node_right, one_node}
use Rattle.laws_problems.proofs.Zips.{zip_exists, zip_from}

-- a node stands at the place
abbrev IsPlaceIn : List Node → Node → ℕ → Type 0
IsPlaceIn nodes n k = slice_get nodes k ≡ Some n

all_here : {A : Type 0} (P : A → Type 0) (xs : List A) → ((k : ℕ) (x : A) → slice_get xs k ≡ Some x → P x) → AllAre P xs
all_here P [] h = tt
all_here P (x ∷ xs) h = (h 0 x refl, all_here P xs (λ k y e. h (suc k) y e))

rise_from : (nodes : List Node) (j : ℕ) (m : Node) (ns : List Node) (ks : List ℕ) → Increases IsNodeLess nodes
    → IsPlaceIn nodes m j → IncreasesFrom IsNodeLess m ns → AllZip (IsPlaceIn nodes) ns ks
    → IncreasesFrom PlaceBefore j ks
rise_from nodes j m [] [] r at i z = tt
rise_from nodes j m [] (k ∷ ks) r at i z = absurd z
rise_from nodes j m (n ∷ ns) [] r at i z = absurd z
rise_from nodes j m (n ∷ ns) (k ∷ ks) r at i z = (
  places_rise IsNodeLess node_cmp-total.trans nodes j k m n r at z.0 (not_itself m) i.0 (not_back m n i.0),
  rise_from nodes k n ns ks r z.0 i.1 z.1,
)

-- nodes that increase stand at places that increase
places_increase : (nodes ns : List Node) (ks : List ℕ) → Increases IsNodeLess nodes → Increases IsNodeLess ns
    → AllZip (IsPlaceIn nodes) ns ks → Increases PlaceBefore ks
places_increase nodes [] [] r i z = tt
places_increase nodes [] (k ∷ ks) r i z = absurd z
places_increase nodes (n ∷ ns) [] r i z = absurd z
places_increase nodes (n ∷ ns) (k ∷ ks) r i z = rise_from nodes k n ns ks r z.0 i z.1

module _ (c : Packages) (starts : List Node) (wish : WishFields) (R : Region) (asked : IsAskedOf c starts)
    (increase : EligibleRises) (nodes : List Node) (fs : List NodeFacts)
    (are : AreNodes c starts R nodes) (drafts : AllZip (IsDraft c wish R nodes) nodes fs) where
  -- what is known of the node at a place
  found : (k : ℕ) (n : Node) → slice_get nodes k ≡ Some n → (f : NodeFacts) × (slice_get fs k ≡ Some f)
      × IsDraft c wish R nodes n f
  found = facts_at c wish R nodes fs are.increasing drafts

  -- facts increase where their nodes do
  facts_from : (n : Node) (ns : List Node) (f : NodeFacts) (gs : List NodeFacts) → IncreasesFrom IsNodeLess n ns
      → f.node ≡ n → AllZip (IsDraft c wish R nodes) ns gs → IncreasesFrom NodeBefore f gs
  facts_from n [] f [] i e z = tt
  facts_from n [] f (g ∷ gs) i e z = absurd z
  facts_from n (m ∷ ns) f [] i e z = absurd z
  facts_from n (m ∷ ns) f (g ∷ gs) i e z =
      (ap (λ (a : Node). node_cmp a g.node) e ∙ (ap (node_cmp n) z.0.node ∙ i.0), facts_from m ns g gs i.1 z.0.node z.1)

  facts_increase : (ns : List Node) (gs : List NodeFacts) → Increases IsNodeLess ns
      → AllZip (IsDraft c wish R nodes) ns gs → Increases NodeBefore gs
  facts_increase [] [] i z = tt
  facts_increase [] (g ∷ gs) i z = absurd z
  facts_increase (n ∷ ns) [] i z = absurd z
  facts_increase (n ∷ ns) (g ∷ gs) i z = facts_from n ns g gs i z.0.node z.1

  -- what a project starts from stands at the roots
  roots_at : (roots : List ℕ) (ns : List Node) (ks : List ℕ) → AllZip (IsPlaceIn nodes) ns ks
      → AreAt (record { roots = roots; nodes = fs }) ks ns
  roots_at roots [] [] z = tt
  roots_at roots [] (k ∷ ks) z = absurd z
  roots_at roots (n ∷ ns) [] z = absurd z
  roots_at roots (n ∷ ns) (k ∷ ks) z = let f = found k n z.0 in ((f.0, f.1, f.2.node), roots_at roots ns ks z.1)

  -- the base of a project's extra is at the place of its base
  based_at : (n : Node) (j : ℕ) (x : Option (List ℕ)) (o : Option ℕ) → (x ≡ None → ⊥)
      → slice_get nodes j ≡ Some (base_of n) → IsBasePlace nodes n x o → o ≡ Some j
  based_at n j None o d e b = absurd (d refl)
  based_at n j (Some x) None d e b = absurd b
  based_at n j (Some x) (Some i) d e b = ap Some (one_node c wish R nodes fs are.increasing drafts i j (base_of n) b e)

  unbased : (n : Node) (o : Option ℕ) → IsBasePlace nodes n None o → o ≡ None
  unbased n None b = refl
  unbased n (Some j) b = absurd b

  extras_of : (n : List ℕ) (j : ℕ) → slice_get nodes j ≡ Some (base n) → (xs : List (List ℕ)) (ks : List ℕ)
      → AllZip (IsPlaceIn nodes) (map (with_extra n) xs) ks → AllAre (IsExtraOf fs j) ks
  extras_of n j e [] [] z = tt
  extras_of n j e [] (k ∷ ks) z = absurd z
  extras_of n j e (x ∷ xs) [] z = absurd z
  extras_of n j e (x ∷ xs) (k ∷ ks) z =
      let f = found k (with_extra n x) z.0 in (
        ap base_in f.1 ∙ based_at (with_extra n x) j (Some x) f.0.base (λ d. none-some x (sym d)) e f.2.base,
        extras_of n j e xs ks z.1,
      )

  -- the roots are a base, and then extras of it
  one_base : (n : List ℕ) (xs : List (List ℕ)) (ks : List ℕ)
      → AllZip (IsPlaceIn nodes) (base n ∷ map (with_extra n) xs) ks → AreOneBase fs ks
  one_base n xs [] z = absurd z
  one_base n xs (k ∷ ks) z = let f = found k (base n) z.0 in
      (ap base_in f.1 ∙ unbased (base n) f.0.base f.2.base, extras_of n k z.0 xs ks z.1)

  -- each root has the project's one version
  singles : (ns : List Node) (ks : List ℕ) → ((n : Node) → Contains ns n → n.name ≡ asked.project.project.name)
      → AllZip (IsPlaceIn nodes) ns ks → AllAre (IsSingle fs) ks
  singles [] [] s z = tt
  singles [] (k ∷ ks) s z = absurd z
  singles (n ∷ ns) [] s z = absurd z
  singles (n ∷ ns) (k ∷ ks) s z = let f = found k n z.0 in (
    ap size_in f.1 ∙ (ap length f.2.versions
        ∙ (ap (λ (m : List ℕ). length (eligible c m)) (s n (contains_first n ns))
        ∙ project_single c starts asked.project)),
    singles ns ks (λ m h. s m (contains_later n ns m h)) z.1,
  )

  -- what a project starts from has its name
  start_name : (n : Node) → Contains starts n → n.name ≡ asked.project.project.name
  start_name n h =
      let name : List ℕ = asked.project.project.name in
      let xs : List (List ℕ) = asked.project.extras in
      ⊎_elim (λ e. ap (λ (z : Node). z.name) e) (λ m. ap (λ (z : Node). z.name)
      (contains_from_map (with_extra name) xs n m).2)
      (contains_cases (base name) (map (with_extra name) xs) n
      (subst (λ (z : List Node). Contains z n) asked.project.are h))

  -- what stands at a place is known of the node there
  draft_of : (k : ℕ) (f : NodeFacts) → slice_get fs k ≡ Some f → (n : Node) × (slice_get nodes k ≡ Some n)
      × IsDraft c wish R nodes n f
  draft_of k f e = zip_from (IsDraft c wish R nodes) nodes fs k f drafts e

  well_formed : (roots : List ℕ) → AllZip (IsPlaceIn nodes) starts roots
      → IsWellFormed (record { roots = roots; nodes = fs })
  well_formed roots z =
      let name : List ℕ = asked.project.project.name in
      let xs : List (List ℕ) = asked.project.extras in
      let placed = subst (λ (ns : List Node). AllZip (IsPlaceIn nodes) ns roots) asked.project.are z in
      record {
        increasing = facts_increase nodes fs are.increasing drafts;
        nodes = all_here (IsNodeOf fs) fs (λ k f e. let d = draft_of k f e in
            node_right c wish R nodes fs are.increasing drafts d.0 f
            (eligible_increases increase c d.0.name asked.packages) d.2);
        roots_increase = places_increase nodes (base name ∷ map (with_extra name) xs) roots are.increasing
            (starts_increase name xs asked.project.increasing) placed;
        roots = one_base name xs roots placed;
        single = singles starts roots start_name z;
      }

  -- the facts of the nodes, with the places of the starts
  problem_exists : (p : Plain) × IsProblemOf c starts wish R p
  problem_exists =
      let roots = zip_exists (IsPlaceIn nodes) starts (λ n m. place_of nodes n (are.listed n (begun n m))) in (
        record { roots = roots.0; nodes = fs },
        record {
          well_formed = well_formed roots.0 roots.1;
          roots = roots_at roots.0 starts roots.0 roots.1;
          facts = λ k f e. let d = draft_of k f e in
              facts_right c wish R nodes fs are.increasing drafts roots.0 f
              (subst (λ (n : Node). IsDraft c wish R nodes n f) (sym d.2.node) d.2);
          reached = λ k f e. let d = draft_of k f e in
              subst (Reached (Contains starts) (Leads c R)) (sym d.2.node)
              (are.reached d.0 (listed_at nodes k d.0 d.1));
        },
      )

-- each region that has a tree has a problem
pub exists : TruthTrees → RegionsDecide → EligibleRises → PreferenceSame → ProblemExists
exists trees decide increase same c starts wish R asked tree =
    let nodes = nodes_exist c starts R decide asked.requirements tree in
    let facts = drafts_exist c starts wish R asked tree trees decide increase same nodes.0 nodes.1 in
    problem_exists c starts wish R asked increase nodes.0 facts.0 nodes.1 facts.1
