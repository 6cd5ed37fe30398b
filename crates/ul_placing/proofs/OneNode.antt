-- What is known of a reached node is right.
use Rattle.std.specs.Prelude.{Contains, slice_get, flat_map}
use Rattle.std.proofs.Common.{◌≡◌, ◌<◌, ℕ, zero, suc, List, [], ◌∷◌, length, get_or, map, option_map, Bool, not, Decides, Option, Some, None, refl, sym, ap, subst, ◌∙◌}
use Rattle.std.proofs.lemmas.Option.{none-some, same_Some, slice_get_within}
use Rattle.ul_base.specs.Kept.{Kept}
use Rattle.ul_base.specs.declared.node.Node.{Node}
use Rattle.ul_base.proofs.ForCallers.{some_is, long_map}
use Rattle.ul_ranges.specs.Flags.{has}
use Rattle.ul_version.specs.Fields.{Fields}
use Rattle.ul_comparison.specs.Worlds.{WorldFields}
use Rattle.ul_problem.specs.Problems.{AllAre, AreNeeds, HasBase, Increases, IsBaseIn, IsNodeOf, IsOrderOf, VersionBefore}
use Rattle.ul_problem.specs.declared.problem.Need.{Need as PlaceNeed}
use Rattle.ul_problem.specs.declared.problem.NodeFacts.{NodeFacts}
use Rattle.ul_requirement.specs.Fields.{RequirementFields, ReleaseFields}
use Rattle.ul_requirement.specs.Laws.{UnnamedNeverApplies}
use Rattle.ul_requirement.specs.declared.wish.Strategy.{Strategy}
use Rattle.ul_index.specs.Applied.{IsFirm}
use Rattle.ul_index.specs.Catalogs.{Packages, release_of, is_fit, is_fit_in, is_release_fit}
use Rattle.ul_index.specs.Eligible.{eligible}
use Rattle.ul_index.specs.Preference.{preference}
use Rattle.ul_index.specs.Regions.{Region}
use Rattle.ul_index.specs.Serves.{Suits}
use Rattle.ul_region.specs.Best.{AreNeeds as AreNamedNeeds, needs_of}
use Rattle.ul_region.specs.Problem.{AreVersionsAt, HasNeedsAt, IsFactsOf}
use Rattle.ul_region.specs.Truths.{PassView}
use Rattle.ul_region.specs.declared.rows.Row.{Row}
use Rattle.ul_prepared.specs.Prepared.{IsPrepared, IsName, IsVersionRow, HasBaseAt}
use Rattle.ul_prepared.specs.Project.{IsProjectOf}
use Rattle.ul_prepared.specs.declared.prepared.NameFacts.{NameFacts}
use Rattle.ul_prepared.specs.declared.prepared.Planned.{Planned}
use Rattle.ul_prepared.specs.declared.prepared.Prepared.{Prepared}
use Rattle.ul_placing.specs.Aims.{AreFirmNeeds}
use Rattle.ul_placing.specs.Facts.{AreFacts, IsFacts, needs_ranked}
use Rattle.ul_placing.specs.Ranks.{rank_in, ranks_from}
use Rattle.ul_placing.specs.Reach.{IsLookedAt, IsReached}
use Rattle.ul_placing.specs.Runs.{versions_in}
use Rattle.ul_placing.specs.declared.aims.NodeAims.{NodeAims}
use Rattle.ul_placing.proofs.Lists.{there, listed_at}
use Rattle.ul_placing.proofs.Shared.{IsPlannedIn, planned_at, name_of}
use Rattle.ul_placing.proofs.Aimed.{own_requirements}
use Rattle.ul_placing.proofs.Asking.{firm_kept}
use Rattle.ul_placing.proofs.Completing.{base_looked, target_of}
use Rattle.ul_placing.proofs.Needing.{placed_at, needs_at, needs_after, those_needs}

-- what holds of each image holds of each of a mapped list
all_are_map : {A B : Type 0} (P : B → Type 0) (f : A → B) (xs : List A) → ((v : ℕ) (x : A) → slice_get xs v ≡ Some x → P (f x)) → AllAre P (map f xs)
all_are_map P f [] h = tt
all_are_map P f (x ∷ xs) h = (h 0 x refl, all_are_map P f xs (λ v y e. h (suc v) y e))

-- what a mapped list has at a place
map_at : {A B : Type 0} (f : A → List B) (xs : List A) (v : ℕ) (x : A) → slice_get xs v ≡ Some x → get_or (map f xs) v [] ≡ f x
map_at f [] v x e = absurd (none-some x e)
map_at f (y ∷ xs) zero x e = ap f (same_Some y x e)
map_at f (y ∷ xs) (suc v) x e = map_at f xs v x e

-- a release is fit where the one of its version is
fit_of : (strategy : Strategy) (R : Region) (c : Packages) (n : List ℕ) (x : Fields) (r : ReleaseFields) (b : Bool) → release_of c n x ≡ Some r → Decides b (Suits strategy R (is_release_fit r)) → Decides b (Suits strategy R (is_fit c n x))
unfolding is_fit
fit_of strategy R c n x r b e d = subst (λ (f : WorldFields → Bool). Decides b (Suits strategy R f)) (λ i w. is_fit_in (sym e i) w) d

-- a base by its place, where there is an extra
has_base : (nodes : List NodeFacts) (f : NodeFacts) (x : Option (List ℕ)) (j : ℕ) → (x ≡ None → ⊥) → IsBaseIn (slice_get nodes j) f → HasBase nodes f x (Some j)
has_base nodes f None j n h = absurd (n refl)
has_base nodes f (Some x) j n h = h

module _ (law : UnnamedNeverApplies) (h : PassView) (R : Region) (p : Prepared) (aims : List (Option NodeAims)) (ranks : List ℕ) (fs : List NodeFacts)
    (all : IsPrepared h p) (project : IsProjectOf p.catalog.now p.starts.now) (reach : IsReached R p aims) (rank : ranks ≡ ranks_from 0 aims) (facts : AreFacts R p ranks p.nodes.items aims fs)
    (k : ℕ) (planned : Planned) (own : NodeAims) (f : NodeFacts) (at : slice_get p.nodes.items k ≡ Some planned) (looked : IsLookedAt aims k own) (is : IsFacts R p ranks planned own f) where
  plan : IsPlannedIn h p planned
  plan = planned_at h p k planned all at

  name : IsName p.catalog.now p.wish.now plan.facts
  name = name_of h p planned.name plan.facts all plan.at

  own_versions : f.versions ≡ plan.facts.versions
  own_versions = is.versions ∙ ap (λ (z : NameFacts). z.versions) (some_is is.at plan.at)

  own_order : f.order ≡ plan.facts.order
  own_order = is.order ∙ ap (λ (z : NameFacts). z.order) (some_is is.at plan.at)

  own_name : plan.facts.name ≡ f.node.name
  own_name = plan.named ∙ ap (λ (z : Node). z.name) (sym is.node)

  row_count : length planned.rows.items ≡ length f.versions
  row_count = plan.count ∙ ap length (sym own_versions)

  -- what is known of a version
  record IsVersion (v : ℕ) (a : List PlaceNeed) : Type 0 where
    version : Fields
    row : Row
    aimed : List (List PlaceNeed)
    at_version : slice_get plan.facts.versions v ≡ Some version
    at_row : slice_get planned.rows.items v ≡ Some row
    right : IsVersionRow p.catalog.now h p.names.items p.nodes.items p.truths.marks.items planned.node version row aimed
    firm : AreFirmNeeds R planned.node row aimed a

  version_at : (v : ℕ) (a : List PlaceNeed) → slice_get (versions_in own) v ≡ Some a → IsVersion v a
  version_at v a e =
      let of = reach.right k own looked planned at in
      let within : v < length planned.rows.items = subst (λ (n : ℕ). v < n) of.count (slice_get_within (versions_in own) v a e) in
      let row = there planned.rows.items v within in
      let xs = there planned.aims.items v (subst (λ (n : ℕ). v < n) (plan.count ∙ sym plan.aimed) within) in
      let x = there plan.facts.versions v (subst (λ (n : ℕ). v < n) plan.count within) in
      record { version = x.0; row = row.0; aimed = xs.0; at_version = x.1; at_row = row.1; right = plan.rows v x.0 row.0 xs.0 x.1 row.1 xs.1; firm = of.each v row.0 xs.0 a row.1 xs.1 e }

  targets_looked : (v : ℕ) (a : List PlaceNeed) → slice_get (versions_in own) v ≡ Some a → (j : PlaceNeed) → Contains a j → (b : NodeAims) × IsLookedAt aims j.node b
  targets_looked v a e j c = reach.closed k j.node own looked (target_of (versions_in own) a j (listed_at (versions_in own) v a e) c)

  needs_right : (v : ℕ) (a : List PlaceNeed) → slice_get (versions_in own) v ≡ Some a → AreNeeds fs (needs_ranked ranks a)
  needs_right v a e = let s = version_at v a e in
      needs_after h R p aims ranks fs all rank facts _ s.row.asked s.aimed a s.firm s.right.aimed (targets_looked v a e)

  base_of_base : (o : Option ℕ) → planned.base ≡ o → HasBaseAt p.names.items p.nodes.items planned.node o plan.facts → HasBase fs f f.node.extra (option_map (rank_in ranks) o)
  base_of_base None e t = subst (λ (x : Option (List ℕ)). HasBase fs f x None) (sym (ap (λ (z : Node). z.extra) is.node ∙ t)) tt
  base_of_base (Some b) e t =
      let a = base_looked law h R p aims k b planned own all project reach at looked e in
      let q = placed_at R p aims ranks fs b t.1.planned a.0 rank facts t.1.at a.1 in
      let same : q.facts.versions ≡ f.versions = q.is.versions ∙ (ap (λ (z : NameFacts). z.versions) (some_is q.is.at t.1.facts) ∙ sym own_versions) in
      let node : q.facts.node ≡ record { name = planned.node.name; extra = None } = q.is.node ∙ t.1.node in
      has_base fs f f.node.extra (rank_in ranks b) (λ x. t.0 (ap (λ (z : Node). z.extra) (sym is.node) ∙ x))
      (subst (λ (z : Option NodeFacts). IsBaseIn z f) (sym q.at) (ap (λ (z : Node). z.name) node ∙ ap (λ (z : Node). z.name) (sym is.node), ap (λ (z : Node). z.extra) node, same))

  -- what is known of the node is what a problem asks of each node
  pub node_right : IsNodeOf fs f
  node_right = record {
    increasing = subst (λ (z : List Fields). Increases VersionBefore z) (sym own_versions) name.increasing;
    has_base = subst (λ (z : Option ℕ). HasBase fs f f.node.extra z) (sym is.base) (base_of_base planned.base refl plan.base);
    is_order = subst (λ (z : List Fields). IsOrderOf (length z) f.order) (sym own_versions) (subst (λ (z : List ℕ). IsOrderOf (length plan.facts.versions) z) (sym own_order) name.whole);
    barred_size = is.barred.size ∙ row_count;
    rows = ap length is.needs ∙ (long_map (needs_ranked ranks) (versions_in own) ∙ ((reach.right k own looked planned at).count ∙ row_count));
    needs = subst (λ (z : List (List PlaceNeed)). AllAre (AreNeeds fs) z) (sym is.needs) (all_are_map (AreNeeds fs) (needs_ranked ranks) (versions_in own) needs_right);
  }

  -- the needs of a version are those of its firm requirements
  needs_named : (roots : List ℕ) (v : ℕ) (x : Fields) → slice_get f.versions v ≡ Some x → HasNeedsAt p.catalog.now R (record { roots = roots; nodes = fs }) f.node x (get_or f.needs v [])
  needs_named roots v x e =
      let within : v < length (versions_in own) = subst (λ (n : ℕ). v < n) (sym ((reach.right k own looked planned at).count ∙ row_count)) (slice_get_within f.versions v x e) in
      let a = there (versions_in own) v within in
      let s = version_at v a.0 a.1 in
      let same : s.version ≡ x = same_Some s.version x (sym s.at_version ∙ (ap (λ (z : List Fields). slice_get z v) (sym own_versions) ∙ e)) in
      let qs = s.row.release.now.requirements in
      let found = own_requirements p.catalog.now planned.node s.version s.row.release.now s.right.found in
      let own_needs = those_needs (IsFirm qs R planned.node) p.names.items p.nodes.items s.row.asked s.aimed a.0 s.firm s.right.aimed in
      let kept = firm_kept law qs R planned.node own_needs.firm (subst (λ (rs : List RequirementFields). Kept (IsFirm qs R planned.node) rs own_needs.firm) s.right.holds.are.same own_needs.kept) in
      let placed = needs_at h R p aims ranks fs all rank facts roots a.0 (flat_map needs_of own_needs.firm) own_needs.aims (targets_looked v a.0 a.1) in
      let list : get_or f.needs v [] ≡ needs_ranked ranks a.0 = ap (λ (z : List (List PlaceNeed)). get_or z v []) is.needs ∙ map_at (needs_ranked ranks) (versions_in own) v a.0 a.1 in
      subst (λ (z : List PlaceNeed). HasNeedsAt p.catalog.now R (record { roots = roots; nodes = fs }) f.node x z) (sym list)
      (subst (λ (n : Node). HasNeedsAt p.catalog.now R (record { roots = roots; nodes = fs }) n x (needs_ranked ranks a.0)) (sym is.node)
      (subst (λ (y : Fields). HasNeedsAt p.catalog.now R (record { roots = roots; nodes = fs }) planned.node y (needs_ranked ranks a.0)) same (record {
        needs = flat_map needs_of own_needs.firm;
        are = subst (λ (z : List RequirementFields). AreNamedNeeds z R planned.node (flat_map needs_of own_needs.firm)) (sym found) (record { firm = own_needs.firm; kept = kept; are = refl });
        at = placed;
      })))

  barred_named : (v : ℕ) (x : Fields) → slice_get f.versions v ≡ Some x → Decides (not (has v f.barred)) (Suits p.wish.now.strategy R (is_fit p.catalog.now f.node.name x))
  barred_named v x e =
      let within : v < length (versions_in own) = subst (λ (n : ℕ). v < n) (sym ((reach.right k own looked planned at).count ∙ row_count)) (slice_get_within f.versions v x e) in
      let a = there (versions_in own) v within in
      let s = version_at v a.0 a.1 in
      let same : s.version ≡ x = same_Some s.version x (sym s.at_version ∙ (ap (λ (z : List Fields). slice_get z v) (sym own_versions) ∙ e)) in
      let found : release_of p.catalog.now f.node.name x ≡ Some s.row.release.now = subst (λ (n : Node). release_of p.catalog.now n.name x ≡ Some s.row.release.now) (sym is.node)
      (subst (λ (y : Fields). release_of p.catalog.now planned.node.name y ≡ Some s.row.release.now) same s.right.found) in
      fit_of p.wish.now.strategy R p.catalog.now f.node.name x s.row.release.now (not (has v f.barred)) found (is.barred.each v s.row s.at_row)

  -- what is known of the node is what the region and the catalog say of it
  pub facts_right : (roots : List ℕ) → IsFactsOf p.catalog.now p.wish.now R (record { roots = roots; nodes = fs }) f
  facts_right roots = record {
    versions = own_versions ∙ (name.versions ∙ ap (eligible p.catalog.now) own_name);
    order = subst (λ (z : List Fields). AreVersionsAt z f.order (preference p.catalog.now p.wish.now f.node.name)) (sym own_versions)
        (subst (λ (z : List ℕ). AreVersionsAt plan.facts.versions z (preference p.catalog.now p.wish.now f.node.name)) (sym own_order)
        (subst (λ (n : List ℕ). AreVersionsAt plan.facts.versions plan.facts.order (preference p.catalog.now p.wish.now n)) own_name name.order));
    barred = barred_named;
    needs = needs_named roots;
  }
