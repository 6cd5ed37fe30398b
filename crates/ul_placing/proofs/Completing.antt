-- Each node that is reached was looked at, and so was its base.
use Rattle.std.specs.Prelude.{Contains, slice_get, flat_map}
use Rattle.std.proofs.Common.{◌≡◌, ◌<◌, ℕ, List, [], ◌∷◌, length, map, Option, Some, None, sym, ap, subst, ◌∙◌, inl, inr, ⊎_elim}
use Rattle.std.proofs.lemmas.List.Elements.{Contains-append_left, Contains-append_right}
use Rattle.std.proofs.lemmas.Option.{none-some, same_Some, slice_get_within}
use Rattle.ul_base.specs.Reached.{Reached, begun, led}
use Rattle.ul_base.specs.declared.node.Node.{Node}
use Rattle.ul_base.proofs.ForCallers.{none_in, contains_first, contains_later, contains_cases, contains_map, contains_from_map, contains_flat, reached_in}
use Rattle.ul_version.specs.Fields.{Fields}
use Rattle.ul_problem.specs.declared.problem.Need.{Need as PlaceNeed}
use Rattle.ul_requirement.specs.Fields.{RequirementFields}
use Rattle.ul_requirement.specs.Laws.{UnnamedNeverApplies}
use Rattle.ul_requirement.specs.Truth.{base, base_of, with_extra, targets}
use Rattle.ul_index.specs.Applied.{IsFirm}
use Rattle.ul_index.specs.Catalogs.{Packages}
use Rattle.ul_index.specs.Eligible.{eligible}
use Rattle.ul_index.specs.Regions.{Region}
use Rattle.ul_region.specs.Best.{Need, needs_of}
use Rattle.ul_region.specs.Problem.{Leads}
use Rattle.ul_region.specs.Truths.{PassView}
use Rattle.ul_region.specs.declared.rows.Asked.{Asked}
use Rattle.ul_region.proofs.ForCallers.{asked_firm}
use Rattle.ul_prepared.specs.Prepared.{IsPrepared, IsAim, IsNodeAt, AreAims, AreNodesAt, AreRowAims, HasBaseAt}
use Rattle.ul_prepared.specs.Project.{IsProjectOf}
use Rattle.ul_prepared.specs.declared.prepared.NameFacts.{NameFacts}
use Rattle.ul_prepared.specs.declared.prepared.Planned.{Planned}
use Rattle.ul_prepared.specs.declared.prepared.Prepared.{Prepared}
use Rattle.ul_placing.specs.Aims.{AreThoseOf, IsFirmIn}
use Rattle.ul_placing.specs.Reach.{IsLookedAt, IsReached, node_of, targets_of}
use Rattle.ul_placing.specs.Runs.{versions_in}
use Rattle.ul_placing.specs.declared.aims.NodeAims.{NodeAims}
use Rattle.ul_placing.proofs.Lists.{there, listed_at, place_of}
use Rattle.ul_placing.proofs.Shared.{IsPlannedIn, planned_at, name_of}
use Rattle.ul_placing.proofs.Aimed.{own_requirements}
use Rattle.ul_placing.proofs.Rising.{one_planned}

-- the node was looked at
pub record IsNodeLooked (p : Prepared) (aims : List (Option NodeAims)) (n : Node) : Type 0 where
  pub place : ℕ
  pub planned : Planned
  pub own : NodeAims
  pub at : slice_get p.nodes.items place ≡ Some planned
  pub node : planned.node ≡ n
  pub looked : IsLookedAt aims place own

-- a node that a region starts from stands at a root
node_root : (nodes : List Planned) (ks : List ℕ) (ns : List Node) (n : Node) → AreNodesAt nodes ks ns → Contains ns n → (k : ℕ) × Contains ks k × ((planned : Planned) × (slice_get nodes k ≡ Some planned) × (planned.node ≡ n))
node_root nodes [] [] n h c = absurd (none_in n c)
node_root nodes [] (m ∷ ns) n h c = absurd h
node_root nodes (k ∷ ks) [] n h c = absurd h
node_root nodes (k ∷ ks) (m ∷ ns) n h c = ⊎_elim
    (λ e. (k, contains_first k ks, (h.planned, h.at, h.node ∙ sym e)))
    (λ r. let f = node_root nodes ks ns n h.rest r in (f.0, contains_later k ks f.0 f.1, f.2)) (contains_cases m ns n c)

-- a need that stands for a need
record HasAim (names : List NameFacts) (nodes : List Planned) (ks : List PlaceNeed) (t : Need) : Type 0 where
  need : PlaceNeed
  listed : Contains ks need
  aim : IsAim names nodes need t

aim_for : (names : List NameFacts) (nodes : List Planned) (ks : List PlaceNeed) (ts : List Need) (t : Need) → AreAims names nodes ks ts → Contains ts t → HasAim names nodes ks t
aim_for names nodes [] [] t h c = absurd (none_in t c)
aim_for names nodes [] (u ∷ ts) t h c = absurd h
aim_for names nodes (k ∷ ks) [] t h c = absurd h
aim_for names nodes (k ∷ ks) (u ∷ ts) t h c = ⊎_elim
    (λ e. record { need = k; listed = contains_first k ks; aim = subst (λ (z : Need). IsAim names nodes k z) (sym e) h.0 })
    (λ r. let f = aim_for names nodes ks ts t h.1 r in record { need = f.need; listed = contains_later k ks f.need f.listed; aim = f.aim }) (contains_cases u ts t c)

those_have : (P : Asked → Type 0) (names : List NameFacts) (nodes : List Planned) (asked : List Asked) (xs : List (List PlaceNeed)) (ks : List PlaceNeed) (one : Asked) (t : Need) → AreThoseOf P asked xs ks → AreRowAims names nodes xs asked
    → Contains asked one → P one → Contains (needs_of one.requirement.now) t → HasAim names nodes ks t
those_have P names nodes [] [] ks one t h r c q d = absurd (none_in one c)
those_have P names nodes [] (x ∷ xs) ks one t h r c q d = absurd h
those_have P names nodes (a ∷ asked) [] ks one t h r c q d = absurd h
those_have P names nodes (a ∷ asked) (x ∷ xs) ks one t (inl h) r c q d = ⊎_elim
    (λ e. let f = aim_for names nodes x (needs_of a.requirement.now) t r.0 (subst (λ (z : Asked). Contains (needs_of z.requirement.now) t) e d) in
    record { need = f.need; listed = subst (λ (z : List PlaceNeed). Contains z f.need) (sym h.are) (Contains-append_left x h.rest f.need f.listed); aim = f.aim })
    (λ m. let f = those_have P names nodes asked xs h.rest one t h.more r.1 m q d in
    record { need = f.need; listed = subst (λ (z : List PlaceNeed). Contains z f.need) (sym h.are) (Contains-append_right x h.rest f.need f.listed); aim = f.aim }) (contains_cases a asked one c)
those_have P names nodes (a ∷ asked) (x ∷ xs) ks one t (inr h) r c q d = ⊎_elim
    (λ e. absurd (h.fails (subst P e q))) (λ m. those_have P names nodes asked xs ks one t h.more r.1 m q d) (contains_cases a asked one c)

-- a need of a version is among what the node aims at
pub target_of : (list : List (List PlaceNeed)) (a : List PlaceNeed) (k : PlaceNeed) → Contains list a → Contains a k → Contains (flat_map targets_of list) k.node
target_of list a k c d = contains_flat targets_of list a k.node c (contains_map node_of a k d)

need_for : (q : RequirementFields) (n : Node) → Contains (targets q) n → Contains (needs_of q) (record { node = n; specifiers = q.specifiers })
need_for q n c = contains_map (λ (m : Node). record { node = m; specifiers = q.specifiers }) (targets q) n c

module _ (law : UnnamedNeverApplies) (h : PassView) (R : Region) (p : Prepared) (aims : List (Option NodeAims)) (all : IsPrepared h p) (reach : IsReached R p aims) where
  start_looked : (n : Node) → Contains p.starts.now n → IsNodeLooked p aims n
  start_looked n c =
      let r = node_root p.nodes.items p.roots.items p.starts.now n all.roots c in
      let l = reach.rooted r.0 r.1 in
      record { place = r.0; planned = r.2.0; own = l.0; at = r.2.1; node = r.2.2; looked = l.1 }

  versions_listed : (planned : Planned) (is : IsPlannedIn h p planned) (x : Fields) → Contains (eligible p.catalog.now planned.node.name) x → Contains is.facts.versions x
  versions_listed planned is x c = subst (λ (z : List Fields). Contains z x)
      (sym ((name_of h p planned.name is.facts all is.at).versions ∙ ap (eligible p.catalog.now) is.named)) c

  from_node : (k : ℕ) (planned : Planned) (own : NodeAims) (b : Node) → slice_get p.nodes.items k ≡ Some planned → IsLookedAt aims k own → Leads p.catalog.now R planned.node b → IsNodeLooked p aims b
  from_node k planned own b at looked l =
      let is = planned_at h p k planned all at in
      let v = place_of is.facts.versions l.version (versions_listed planned is l.version l.is_eligible) in
      let within : v.0 < length is.facts.versions = slice_get_within is.facts.versions v.0 l.version v.1 in
      let row = there planned.rows.items v.0 (subst (λ (n : ℕ). v.0 < n) (sym is.count) within) in
      let xs = there planned.aims.items v.0 (subst (λ (n : ℕ). v.0 < n) (sym is.aimed) within) in
      let version = is.rows v.0 l.version row.0 xs.0 v.1 row.1 xs.1 in
      let qs = row.0.release.now.requirements in
      let same = own_requirements p.catalog.now planned.node l.version row.0.release.now version.found in
      let firm : IsFirm qs R planned.node l.requirement = subst (λ (rs : List RequirementFields). IsFirm rs R planned.node l.requirement) same l.firm in
      let one = asked_firm law h planned.node p.truths.marks.items qs row.0.asked version.holds.are R l.requirement firm in
      let of = reach.right k own looked planned at in
      let a = there (versions_in own) v.0 (subst (λ (n : ℕ). v.0 < n) (sym (of.count ∙ is.count)) within) in
      let f = those_have (IsFirmIn R planned.node row.0) p.names.items p.nodes.items row.0.asked xs.0 a.0 one.0 (record { node = b; specifiers = one.0.requirement.now.specifiers })
      (of.each v.0 row.0 xs.0 a.0 row.1 xs.1 a.1) version.aimed one.1 (subst (λ (q : RequirementFields). IsFirm qs R planned.node q) (sym one.2) firm)
      (need_for one.0.requirement.now b (subst (λ (q : RequirementFields). Contains (targets q) b) (sym one.2) l.aimed)) in
      let next = reach.closed k f.need.node own looked (target_of (versions_in own) a.0 f.need (listed_at (versions_in own) v.0 a.0 a.1) f.listed) in
      record { place = f.need.node; planned = f.aim.at.planned; own = next.0; at = f.aim.at.at; node = f.aim.at.node; looked = next.1 }

  next_looked : (a b : Node) → Reached (Contains p.starts.now) (Leads p.catalog.now R) a → IsNodeLooked p aims a → Leads p.catalog.now R a b → IsNodeLooked p aims b
  next_looked a b r l s = from_node l.place l.planned l.own b l.at l.looked (subst (λ (z : Node). Leads p.catalog.now R z b) (sym l.node) s)

  -- what is reached was looked at
  pub reached_looked : (n : Node) → Reached (Contains p.starts.now) (Leads p.catalog.now R) n → IsNodeLooked p aims n
  reached_looked n r = reached_in (IsNodeLooked p aims) start_looked next_looked r

-- ---- bases

-- the base of a node that a project starts from is one too
start_base : (c : Packages) (starts : List Node) (n : Node) → IsProjectOf c starts → Contains starts n → Contains starts (base_of n)
start_base c starts n is h = subst (λ (z : List Node). Contains z (base_of n)) (sym is.are)
    (⊎_elim (λ e. subst (λ (z : Node). Contains (base is.project.name ∷ map (with_extra is.project.name) is.extras) z) (sym (ap base_of e)) (contains_first (base is.project.name) (map (with_extra is.project.name) is.extras)))
    (λ m. let x = contains_from_map (with_extra is.project.name) is.extras n m in
    subst (λ (z : Node). Contains (base is.project.name ∷ map (with_extra is.project.name) is.extras) z) (sym (ap base_of x.2)) (contains_first (base is.project.name) (map (with_extra is.project.name) is.extras)))
    (contains_cases (base is.project.name) (map (with_extra is.project.name) is.extras) n (subst (λ (z : List Node). Contains z n) is.are h)))

-- a requirement that aims at a node aims at its base
target_base : (q : RequirementFields) (n : Node) → Contains (targets q) n → Contains (targets q) (base_of n)
target_base q n h = ⊎_elim
    (λ e. subst (λ (z : Node). Contains (targets q) z) (sym (ap base_of e)) (contains_first (base q.name) (map (with_extra q.name) q.extras)))
    (λ m. let x = contains_from_map (with_extra q.name) q.extras n m in subst (λ (z : Node). Contains (targets q) z) (sym (ap base_of x.2)) (contains_first (base q.name) (map (with_extra q.name) q.extras)))
    (contains_cases (base q.name) (map (with_extra q.name) q.extras) n h)

leads_base : (c : Packages) (R : Region) (n m : Node) → Leads c R n m → Leads c R n (base_of m)
leads_base c R n m l = record { version = l.version; is_eligible = l.is_eligible; requirement = l.requirement; firm = l.firm; aimed = target_base l.requirement m l.aimed }

-- the base of a reached node is reached
pub base_reached : (c : Packages) (starts : List Node) (R : Region) (n : Node) → IsProjectOf c starts → Reached (Contains starts) (Leads c R) n → Reached (Contains starts) (Leads c R) (base_of n)
base_reached c starts R n is (begun a h) = begun (base_of a) (start_base c starts a is h)
base_reached c starts R n is (led a b r l) = led a (base_of b) r (leads_base c R a b l)

-- the place of a base, where it is told
pub base_there : (names : List NameFacts) (nodes : List Planned) (n : Node) (o : Option ℕ) (b : ℕ) (f : NameFacts) → HasBaseAt names nodes n o f → o ≡ Some b → (n.extra ≡ None → ⊥) × IsNodeAt names nodes b (base_of n) f
base_there names nodes n None b f h e = absurd (none-some b e)
base_there names nodes n (Some c) b f h e = (h.0, subst (λ (z : ℕ). IsNodeAt names nodes z (base_of n) f) (same_Some c b e) h.1)

-- the base of a node that was looked at was looked at
pub base_looked : UnnamedNeverApplies → (h : PassView) (R : Region) (p : Prepared) (aims : List (Option NodeAims)) (k b : ℕ) (planned : Planned) (own : NodeAims) → IsPrepared h p → IsProjectOf p.catalog.now p.starts.now → IsReached R p aims
    → slice_get p.nodes.items k ≡ Some planned → IsLookedAt aims k own → planned.base ≡ Some b → (a : NodeAims) × IsLookedAt aims b a
base_looked law h R p aims k b planned own all project reach at looked e =
    let is = planned_at h p k planned all at in
    let told = base_there p.names.items p.nodes.items planned.node planned.base b is.facts is.base e in
    let r = reach.reached k own looked in
    let same : planned ≡ r.0 = same_Some planned r.0 (sym at ∙ r.1) in
    let found = reached_looked law h R p aims all reach (base_of planned.node)
    (base_reached p.catalog.now p.starts.now R planned.node project (subst (λ (z : Planned). Reached (Contains p.starts.now) (Leads p.catalog.now R) z.node) (sym same) r.2)) in
    let place : found.place ≡ b = one_planned p.nodes.items found.place b found.planned told.1.planned all.increasing found.at told.1.at (found.node ∙ sym told.1.node) in
    (found.own, subst (λ (z : ℕ). IsLookedAt aims z found.own) place found.looked)
