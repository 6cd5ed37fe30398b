-- The problem of a region, from what is known of the reached nodes.
use Rattle.std.specs.Prelude.{Contains, slice_get}
use Rattle.std.proofs.Common.{◌≡◌, ℕ, suc, List, [], ◌∷◌, length, map, option_map, Option, Some, None, refl, sym, ap, subst, ◌∙◌, ⊎_elim}
use Rattle.std.proofs.lemmas.Option.{none-some, same_Some}
use Rattle.ul_base.specs.Nodes.{node_cmp}
use Rattle.ul_base.specs.Reached.{Reached}
use Rattle.ul_base.specs.declared.node.Node.{Node}
use Rattle.ul_base.proofs.ForCallers.{some_is, contains_first, contains_later, contains_cases, contains_from_map}
use Rattle.ul_version.specs.Fields.{Fields}
use Rattle.ul_problem.specs.Plain.{size_in, base_in}
use Rattle.ul_problem.specs.Problems.{AllAre, AreOneBase, Increases, IncreasesFrom, IsExtraOf, IsNodeOf, IsSingle, IsWellFormed, NodeBefore, PlaceBefore}
use Rattle.ul_problem.specs.declared.problem.NodeFacts.{NodeFacts}
use Rattle.ul_requirement.specs.Laws.{UnnamedNeverApplies}
use Rattle.ul_requirement.specs.Truth.{base, base_of, with_extra}
use Rattle.ul_index.specs.Catalogs.{Packages}
use Rattle.ul_index.specs.Eligible.{eligible}
use Rattle.ul_index.specs.Regions.{Region}
use Rattle.ul_index.proofs.ForCallers.{own_eligible}
use Rattle.ul_region.specs.Problem.{AreAt, IsAt, IsProblemOf, Leads}
use Rattle.ul_region.specs.Truths.{PassView}
use Rattle.ul_prepared.specs.Prepared.{AreNodesAt, HasBaseAt, IsPrepared}
use Rattle.ul_prepared.specs.Project.{IsProjectOf}
use Rattle.ul_prepared.specs.declared.prepared.NameFacts.{NameFacts}
use Rattle.ul_prepared.specs.declared.prepared.Planned.{Planned}
use Rattle.ul_prepared.specs.declared.prepared.Prepared.{Prepared}
use Rattle.ul_placing.specs.Facts.{AreFacts}
use Rattle.ul_placing.specs.Ranks.{rank_in, ranks_from}
use Rattle.ul_placing.specs.Reach.{IsLookedAt, IsReached}
use Rattle.ul_placing.specs.declared.aims.NodeAims.{NodeAims}
use Rattle.ul_placing.proofs.Shared.{planned_at, name_of}
use Rattle.ul_placing.proofs.Needing.{placed_at, base_is, no_base}
use Rattle.ul_placing.proofs.OneNode.{node_right, facts_right}
use Rattle.ul_placing.proofs.Ranking.{facts_increase, place_looked}
use Rattle.ul_placing.proofs.Rising.{IsNodeLess, facts_rise, starts_increase}

-- ---- the project has one version

project_single : (c : Packages) (starts : List Node) (is : IsProjectOf c starts) → length (eligible c is.project.name) ≡ 1
project_single c starts is =
    ap (λ (z : Packages). length (eligible z is.project.name)) is.first
    ∙ ap (λ (vs : List Fields). length vs) (own_eligible is.project is.others is.release is.one is.kept)

-- each node that is started from is on the project's name
start_name : (c : Packages) (starts : List Node) (is : IsProjectOf c starts) (n : Node) → Contains starts n → n.name ≡ is.project.name
start_name c starts is n h = ⊎_elim (λ e. ap (λ (z : Node). z.name) e) (λ m. ap (λ (z : Node). z.name) (contains_from_map (with_extra is.project.name) is.extras n m).2)
    (contains_cases (base is.project.name) (map (with_extra is.project.name) is.extras) n (subst (λ (z : List Node). Contains z n) is.are h))

all_are_here : {A : Type 0} (P : A → Type 0) (xs : List A) → ((k : ℕ) (x : A) → slice_get xs k ≡ Some x → P x) → AllAre P xs
all_are_here P [] h = tt
all_are_here P (x ∷ xs) h = (h 0 x refl, all_are_here P xs (λ k y e. h (suc k) y e))

module _ (law : UnnamedNeverApplies) (h : PassView) (R : Region) (p : Prepared) (aims : List (Option NodeAims)) (ranks : List ℕ) (fs : List NodeFacts)
    (all : IsPrepared h p) (project : IsProjectOf p.catalog.now p.starts.now) (reach : IsReached R p aims) (rank : ranks ≡ ranks_from 0 aims) (facts : AreFacts R p ranks p.nodes.items aims fs) where
  -- places that were looked at
  abbrev AreRootsLooked : List ℕ → Type 0
  AreRootsLooked ks = (k : ℕ) → Contains ks k → (a : NodeAims) × IsLookedAt aims k a

  roots_at : (roots ks : List ℕ) (ns : List Node) → AreNodesAt p.nodes.items ks ns → AreRootsLooked ks → AreAt (record { roots = roots; nodes = fs }) (map (rank_in ranks) ks) ns
  roots_at roots [] [] a l = tt
  roots_at roots [] (n ∷ ns) a l = absurd a
  roots_at roots (k ∷ ks) [] a l = absurd a
  roots_at roots (k ∷ ks) (n ∷ ns) a l =
      let o = l k (contains_first k ks) in
      let q = placed_at R p aims ranks fs k a.planned o.0 rank facts a.at o.1 in
      ((q.facts, q.at, q.is.node ∙ a.node), roots_at roots ks ns a.rest (λ j c. l j (contains_later k ks j c)))

  nodes_rise : Increases NodeBefore fs
  nodes_rise = facts_increase R p ranks p.nodes.items aims fs all.increasing facts

  rise_from : (roots : List ℕ) (j : ℕ) (m : Node) (ks : List ℕ) (ns : List Node) → IsAt (record { roots = roots; nodes = fs }) j m → IncreasesFrom IsNodeLess m ns → AreAt (record { roots = roots; nodes = fs }) ks ns → IncreasesFrom PlaceBefore j ks
  rise_from roots j m [] [] at i a = tt
  rise_from roots j m [] (n ∷ ns) at i a = absurd a
  rise_from roots j m (k ∷ ks) [] at i a = absurd a
  rise_from roots j m (k ∷ ks) (n ∷ ns) at i a =
      (facts_rise fs j k at.0 a.0.0 nodes_rise at.1 a.0.1 (ap (λ (z : Node). node_cmp z a.0.0.node) at.2 ∙ (ap (node_cmp m) a.0.2 ∙ i.0)), rise_from roots k n ks ns a.0 i.1 a.1)

  roots_rise : (roots ks : List ℕ) (ns : List Node) → Increases IsNodeLess ns → AreAt (record { roots = roots; nodes = fs }) ks ns → Increases PlaceBefore ks
  roots_rise roots [] [] i a = tt
  roots_rise roots [] (n ∷ ns) i a = absurd a
  roots_rise roots (k ∷ ks) [] i a = absurd a
  roots_rise roots (k ∷ ks) (n ∷ ns) i a = rise_from roots k n ks ns a.0 i a.1

  none_based : (n : List ℕ) (k : ℕ) (planned : Planned) (o : Option ℕ) → slice_get p.nodes.items k ≡ Some planned → planned.node ≡ base n → planned.base ≡ o → option_map (rank_in ranks) o ≡ None
  none_based n k planned None at e b = refl
  none_based n k planned (Some c) at e b = absurd (no_base h R p aims ranks fs all rank facts planned c k at b (ap (λ (z : Node). z.extra) e))

  no_extra : (n x : List ℕ) (k : ℕ) (planned : Planned) → slice_get p.nodes.items k ≡ Some planned → planned.node ≡ with_extra n x → planned.base ≡ None → ⊥
  no_extra n x k planned at e b = let is = planned_at h p k planned all at in
      none-some x (sym (subst (λ (z : Option ℕ). HasBaseAt p.names.items p.nodes.items planned.node z is.facts) b is.base) ∙ ap (λ (z : Node). z.extra) e)

  extra_base : (n x : List ℕ) (j k : ℕ) (of planned : Planned) (o : Option ℕ) → slice_get p.nodes.items j ≡ Some of → of.node ≡ base n → slice_get p.nodes.items k ≡ Some planned → planned.node ≡ with_extra n x → planned.base ≡ o
      → option_map (rank_in ranks) o ≡ Some (rank_in ranks j)
  extra_base n x j k of planned None d e at f b = absurd (no_extra n x k planned at f b)
  extra_base n x j k of planned (Some c) d e at f b = ap (λ (z : ℕ). Some (rank_in ranks z)) (base_is h R p aims ranks fs all rank facts j of planned c k at b d (e ∙ sym (ap base_of f)))

  -- the extras of the project have its base
  extras_of : (n : List ℕ) (j : ℕ) (of : Planned) → slice_get p.nodes.items j ≡ Some of → of.node ≡ base n → (ks : List ℕ) (xs : List (List ℕ)) → AreNodesAt p.nodes.items ks (map (with_extra n) xs) → AreRootsLooked ks
      → AllAre (IsExtraOf fs (rank_in ranks j)) (map (rank_in ranks) ks)
  extras_of n j of d e [] xs a l = tt
  extras_of n j of d e (k ∷ ks) [] a l = absurd a
  extras_of n j of d e (k ∷ ks) (x ∷ xs) a l =
      let o = l k (contains_first k ks) in
      let q = placed_at R p aims ranks fs k a.planned o.0 rank facts a.at o.1 in
      (ap base_in q.at ∙ (q.is.base ∙ extra_base n x j k of a.planned a.planned.base d e a.at a.node refl), extras_of n j of d e ks xs a.rest (λ i c. l i (contains_later k ks i c)))

  roots_of_base : (n : List ℕ) (xs : List (List ℕ)) (ks : List ℕ) → AreNodesAt p.nodes.items ks (base n ∷ map (with_extra n) xs) → AreRootsLooked ks → AreOneBase fs (map (rank_in ranks) ks)
  roots_of_base n xs [] a l = absurd a
  roots_of_base n xs (k ∷ ks) a l =
      let o = l k (contains_first k ks) in
      let q = placed_at R p aims ranks fs k a.planned o.0 rank facts a.at o.1 in
      (ap base_in q.at ∙ (q.is.base ∙ none_based n k a.planned a.planned.base a.at a.node refl), extras_of n k a.planned a.at a.node ks xs a.rest (λ i c. l i (contains_later k ks i c)))

  single_at : (ks : List ℕ) (ns : List Node) → AreNodesAt p.nodes.items ks ns → ((n : Node) → Contains ns n → Contains p.starts.now n) → AreRootsLooked ks → AllAre (IsSingle fs) (map (rank_in ranks) ks)
  single_at [] ns a s l = tt
  single_at (k ∷ ks) [] a s l = absurd a
  single_at (k ∷ ks) (n ∷ ns) a s l =
      let o = l k (contains_first k ks) in
      let q = placed_at R p aims ranks fs k a.planned o.0 rank facts a.at o.1 in
      let is = planned_at h p k a.planned all a.at in
      let name = name_of h p a.planned.name is.facts all is.at in
      let same : is.facts.name ≡ project.project.name = is.named ∙ (ap (λ (z : Node). z.name) a.node ∙ start_name p.catalog.now p.starts.now project n (s n (contains_first n ns))) in (
        ap size_in q.at ∙ (ap length (q.is.versions ∙ (ap (λ (z : NameFacts). z.versions) (some_is q.is.at is.at) ∙ (name.versions ∙ ap (eligible p.catalog.now) same))) ∙ project_single p.catalog.now p.starts.now project),
        single_at ks ns a.rest (λ m c. s m (contains_later n ns m c)) (λ i c. l i (contains_later k ks i c)),
      )

  one_of : (j : ℕ) (f : NodeFacts) → slice_get fs j ≡ Some f → IsNodeOf fs f
  one_of j f e = let q = place_looked R p ranks 0 p.nodes.items aims fs j f facts e in node_right law h R p aims ranks fs all project reach rank facts q.place q.planned q.own f q.at q.looked q.is

  reached_of : (j : ℕ) (f : NodeFacts) → slice_get fs j ≡ Some f → Reached (Contains p.starts.now) (Leads p.catalog.now R) f.node
  reached_of j f e =
      let q = place_looked R p ranks 0 p.nodes.items aims fs j f facts e in
      let r = reach.reached q.place q.own q.looked in
      subst (λ (n : Node). Reached (Contains p.starts.now) (Leads p.catalog.now R) n) (ap (λ (z : Planned). z.node) (same_Some r.0 q.planned (sym r.1 ∙ q.at)) ∙ sym q.is.node) r.2

  well_formed : (roots : List ℕ) → roots ≡ map (rank_in ranks) p.roots.items → IsWellFormed (record { roots = roots; nodes = fs })
  well_formed roots e =
      let at = subst (λ (z : List Node). AreNodesAt p.nodes.items p.roots.items z) project.are all.roots in
      record {
        increasing = nodes_rise;
        nodes = all_are_here (IsNodeOf fs) fs one_of;
        roots_increase = subst (λ (z : List ℕ). Increases PlaceBefore z) (sym e)
            (roots_rise roots (map (rank_in ranks) p.roots.items) (base project.project.name ∷ map (with_extra project.project.name) project.extras) (starts_increase project.project.name project.extras project.increasing)
            (roots_at roots p.roots.items (base project.project.name ∷ map (with_extra project.project.name) project.extras) at reach.rooted));
        roots = subst (λ (z : List ℕ). AreOneBase fs z) (sym e) (roots_of_base project.project.name project.extras p.roots.items at reach.rooted);
        single = subst (λ (z : List ℕ). AllAre (IsSingle fs) z) (sym e) (single_at p.roots.items p.starts.now all.roots (λ n c. c) reach.rooted);
      }

  -- what was made is the problem of the region
  pub problem_right : (roots : List ℕ) → roots ≡ map (rank_in ranks) p.roots.items → IsProblemOf p.catalog.now p.starts.now p.wish.now R (record { roots = roots; nodes = fs })
  problem_right roots e = record {
    well_formed = well_formed roots e;
    roots = subst (λ (z : List ℕ). AreAt (record { roots = roots; nodes = fs }) z p.starts.now) (sym e) (roots_at roots p.roots.items p.starts.now all.roots reach.rooted);
    facts = λ j f at. let q = place_looked R p ranks 0 p.nodes.items aims fs j f facts at in facts_right law h R p aims ranks fs all project reach rank facts q.place q.planned q.own f q.at q.looked q.is roots;
    reached = reached_of;
  }

-- the same, where the lists are lent
pub problem_by : UnnamedNeverApplies → (h : PassView) (R : Region) (p : Prepared) (aims a1 a3 : List (Option NodeAims)) (ranks r2 r4 k5 roots : List ℕ) (fs : List NodeFacts) → IsPrepared h p → IsProjectOf p.catalog.now p.starts.now → IsReached R p aims
    → a1 ≡ aims → a3 ≡ aims → r2 ≡ ranks → r4 ≡ ranks → k5 ≡ p.roots.items → ranks ≡ ranks_from 0 a1 → AreFacts R p r2 p.nodes.items a3 fs → roots ≡ map (rank_in r4) k5
    → IsProblemOf p.catalog.now p.starts.now p.wish.now R (record { roots = roots; nodes = fs })
problem_by law h R p aims a1 a3 ranks r2 r4 k5 roots fs all project reach e1 e3 e2 e4 e5 rank facts placed =
    problem_right law h R p aims ranks fs all project reach (rank ∙ ap (ranks_from 0) e1)
    (subst (λ (z : List (Option NodeAims)). AreFacts R p ranks p.nodes.items z fs) e3 (subst (λ (z : List ℕ). AreFacts R p z p.nodes.items a3 fs) e2 facts)) roots
    (placed ∙ (ap (λ (z : List ℕ). map (rank_in z) k5) e4 ∙ ap (map (rank_in ranks)) e5))
