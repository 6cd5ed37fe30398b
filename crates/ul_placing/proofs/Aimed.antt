-- What the needs of firm requirements aim at is led to.
use Rattle.std.specs.Prelude.{Contains, slice_get, flat_map}
use Rattle.std.proofs.Common.{◌≡◌, ◌<◌, ℕ, List, [], ◌∷◌, length, Some, sym, ap, subst, ◌∙◌, inl, inr, ⊎_elim}
use Rattle.std.proofs.lemmas.List.Elements.{Contains-append_cases}
use Rattle.std.proofs.lemmas.Option.{same_Some, slice_get_within}
use Rattle.ul_base.specs.Reached.{led}
use Rattle.ul_base.specs.declared.node.Node.{Node}
use Rattle.ul_base.proofs.ForCallers.{none_in, contains_first, contains_later, contains_cases, contains_from_map, contains_from_flat}
use Rattle.ul_version.specs.Fields.{Fields}
use Rattle.ul_problem.specs.declared.problem.Need.{Need as PlaceNeed}
use Rattle.ul_requirement.specs.Fields.{RequirementFields, ReleaseFields}
use Rattle.ul_requirement.specs.Truth.{targets}
use Rattle.ul_index.specs.Applied.{IsFirm}
use Rattle.ul_index.specs.Catalogs.{Packages, release_of, requirements, requirements_in}
use Rattle.ul_index.specs.Eligible.{eligible}
use Rattle.ul_index.specs.Regions.{Region}
use Rattle.ul_region.specs.Best.{Need, needs_of}
use Rattle.ul_region.specs.Problem.{Leads}
use Rattle.ul_region.specs.Truths.{PassView}
use Rattle.ul_region.specs.declared.rows.Asked.{Asked}
use Rattle.ul_region.specs.declared.rows.Row.{Row}
use Rattle.ul_prepared.specs.Prepared.{IsPrepared, IsAim, AreAims, AreRowAims, IsVersionRow}
use Rattle.ul_prepared.specs.declared.prepared.NameFacts.{NameFacts}
use Rattle.ul_prepared.specs.declared.prepared.Planned.{Planned}
use Rattle.ul_prepared.specs.declared.prepared.Prepared.{Prepared}
use Rattle.ul_placing.specs.Aims.{AreAimsOf, AreFirmNeeds, AreThoseOf, IsFirmIn}
use Rattle.ul_placing.specs.Reach.{IsNodeReached, node_of, targets_of}
use Rattle.ul_placing.proofs.Lists.{there, listed_at, place_of}
use Rattle.ul_placing.proofs.Shared.{IsPlannedIn, planned_at, name_of, row_at}

-- a need by places, of a need of a requirement
pub record IsNeedOf (names : List NameFacts) (nodes : List Planned) (q : RequirementFields) (k : PlaceNeed) : Type 0 where
  pub need : Need
  pub listed : Contains (needs_of q) need
  pub aim : IsAim names nodes k need

-- a need by places, of a requirement of the row at which P holds
pub record IsThatOf (P : Asked → Type 0) (names : List NameFacts) (nodes : List Planned) (asked : List Asked) (k : PlaceNeed) : Type 0 where
  pub one : Asked
  pub listed : Contains asked one
  pub holds : P one
  pub of : IsNeedOf names nodes one.requirement.now k

aim_of : (names : List NameFacts) (nodes : List Planned) (ks : List PlaceNeed) (ts : List Need) (k : PlaceNeed) → AreAims names nodes ks ts → Contains ks k → (t : Need) × Contains ts t × IsAim names nodes k t
aim_of names nodes [] [] k h c = absurd (none_in k c)
aim_of names nodes [] (t ∷ ts) k h c = absurd h
aim_of names nodes (j ∷ ks) [] k h c = absurd h
aim_of names nodes (j ∷ ks) (t ∷ ts) k h c = ⊎_elim
    (λ e. (t, contains_first t ts, subst (λ (z : PlaceNeed). IsAim names nodes z t) (sym e) h.0))
    (λ r. let f = aim_of names nodes ks ts k h.1 r in (f.0, contains_later t ts f.0 f.1, f.2)) (contains_cases j ks k c)

later_one : (P : Asked → Type 0) (names : List NameFacts) (nodes : List Planned) (a : Asked) (asked : List Asked) (k : PlaceNeed) → IsThatOf P names nodes asked k → IsThatOf P names nodes (a ∷ asked) k
later_one P names nodes a asked k f = record { one = f.one; listed = contains_later a asked f.one f.listed; holds = f.holds; of = f.of }

-- a need among those of the requirements at which P holds
pub that_of : (P : Asked → Type 0) (names : List NameFacts) (nodes : List Planned) (asked : List Asked) (aims : List (List PlaceNeed)) (ks : List PlaceNeed) (k : PlaceNeed)
    → AreThoseOf P asked aims ks → AreRowAims names nodes aims asked → Contains ks k → IsThatOf P names nodes asked k
that_of P names nodes [] [] ks k h r c = absurd (none_in k (subst (λ (z : List PlaceNeed). Contains z k) h c))
that_of P names nodes [] (x ∷ xs) ks k h r c = absurd h
that_of P names nodes (a ∷ asked) [] ks k h r c = absurd h
that_of P names nodes (a ∷ asked) (x ∷ xs) ks k (inl h) r c = ⊎_elim
    (λ m. let f = aim_of names nodes x (needs_of a.requirement.now) k r.0 m in record { one = a; listed = contains_first a asked; holds = h.holds; of = record { need = f.0; listed = f.1; aim = f.2 } })
    (λ m. later_one P names nodes a asked k (that_of P names nodes asked xs h.rest k h.more r.1 m))
    (Contains-append_cases x h.rest k (subst (λ (z : List PlaceNeed). Contains z k) h.are c))
that_of P names nodes (a ∷ asked) (x ∷ xs) ks k (inr h) r c = later_one P names nodes a asked k (that_of P names nodes asked xs ks k h.more r.1 c)

-- the requirements of a version whose release is found
pub own_requirements : (c : Packages) (n : Node) (x : Fields) (r : ReleaseFields) → release_of c n.name x ≡ Some r → requirements c n.name x ≡ r.requirements
unfolding requirements
own_requirements c n x r e = ap requirements_in e

need_target : (q : RequirementFields) (t : Need) → Contains (needs_of q) t → Contains (targets q) t.node
need_target q t h = let f = contains_from_map (λ (m : Node). record { node = m; specifiers = q.specifiers }) (targets q) t h in
    subst (λ (m : Node). Contains (targets q) m) (sym (ap (λ (z : Need). z.node) f.2)) f.1

-- what is known of the name of a node, with its version
pub eligible_version : (h : PassView) (p : Prepared) (planned : Planned) (is : IsPlannedIn h p planned) (v : ℕ) (x : Fields) → IsPrepared h p → slice_get is.facts.versions v ≡ Some x → Contains (eligible p.catalog.now planned.node.name) x
eligible_version h p planned is v x all e =
    subst (λ (m : List ℕ). Contains (eligible p.catalog.now m) x) is.named
    (subst (λ (z : List Fields). Contains z x) (name_of h p planned.name is.facts all is.at).versions (listed_at is.facts.versions v x e))

-- a need of a version leads from the node to the one that it aims at
leads_to : (h : PassView) (R : Region) (p : Prepared) (planned : Planned) (x : Fields) (row : Row) (aims : List (List PlaceNeed)) (ks : List PlaceNeed) (k : PlaceNeed)
    → IsVersionRow p.catalog.now h p.names.items p.nodes.items p.truths.marks.items planned.node x row aims → Contains (eligible p.catalog.now planned.node.name) x
    → AreFirmNeeds R planned.node row aims ks → Contains ks k
    → (m : Planned) × (slice_get p.nodes.items k.node ≡ Some m) × Leads p.catalog.now R planned.node m.node
leads_to h R p planned x row aims ks k is listed firm c =
    let f = that_of (IsFirmIn R planned.node row) p.names.items p.nodes.items row.asked aims ks k firm is.aimed c in
    let same = own_requirements p.catalog.now planned.node x row.release.now is.found in (
      f.of.aim.at.planned,
      f.of.aim.at.at,
      record {
        version = x;
        is_eligible = listed;
        requirement = f.one.requirement.now;
        firm = subst (λ (qs : List RequirementFields). IsFirm qs R planned.node f.one.requirement.now) (sym same) f.holds;
        aimed = subst (λ (m : Node). Contains (targets f.one.requirement.now) m) (sym f.of.aim.at.node) (need_target f.one.requirement.now f.of.need f.of.listed);
      },
    )

-- a place that a node's versions aim at is that of a node to which it leads
pub aimed_leads : (h : PassView) (R : Region) (p : Prepared) (planned : Planned) (list : List (List PlaceNeed)) (m : ℕ) → IsPrepared h p → IsPlannedIn h p planned → AreAimsOf R planned list → Contains (flat_map targets_of list) m
    → (to : Planned) × (slice_get p.nodes.items m ≡ Some to) × Leads p.catalog.now R planned.node to.node
aimed_leads h R p planned list m all is of c =
    let a = contains_from_flat targets_of list m c in
    let need = contains_from_map node_of a.0 m a.2 in
    let at = place_of list a.0 a.1 in
    let within : at.0 < length planned.rows.items = subst (λ (n : ℕ). at.0 < n) of.count (slice_get_within list at.0 a.0 at.1) in
    let row = there planned.rows.items at.0 within in
    let aims = there planned.aims.items at.0 (subst (λ (n : ℕ). at.0 < n) (is.count ∙ sym is.aimed) within) in
    let version = row_at h p planned is at.0 row.0 aims.0 row.1 aims.1 in
    let to = leads_to h R p planned version.0 row.0 aims.0 a.0 need.0 version.2 (eligible_version h p planned is at.0 version.0 all version.1)
    (of.each at.0 row.0 aims.0 a.0 row.1 aims.1 at.1) need.1 in
    (to.0, subst (λ (j : ℕ). slice_get p.nodes.items j ≡ Some to.0) (sym need.2) to.1, to.2)

-- a place that a reached node aims at is that of a reached node
pub aimed_reached : (h : PassView) (R : Region) (p : Prepared) (k m : ℕ) (planned : Planned) (list : List (List PlaceNeed)) → IsPrepared h p → slice_get p.nodes.items k ≡ Some planned → IsNodeReached R p k → AreAimsOf R planned list → Contains (flat_map targets_of list) m → IsNodeReached R p m
aimed_reached h R p k m planned list all at reached of c =
    let to = aimed_leads h R p planned list m all (planned_at h p k planned all at) of c in
    (to.0, to.1, led reached.0.node to.0.node reached.2 (subst (λ (z : Planned). Leads p.catalog.now R z.node to.0.node) (same_Some planned reached.0 (sym at ∙ reached.1)) to.2))
