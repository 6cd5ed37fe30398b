-- Leaves that are apart and cover the region merge into a sound lock.
use Rattle.std.proofs.Common.{◌≡◌, ℕ, List, true, Some, Contains, refl, sym, ap, ◌∙◌, subst, inl, inr, ⊎_elim}
use Rattle.std.specs.Cmp.{tied_itself}
use Rattle.ul_base.specs.Reached.{begun, led}
use Rattle.ul_base.specs.declared.node.Node.{Node}
use Rattle.ul_base.proofs.ForCallers.{some_is, contains_first, contains_later, contains_map, reached_in}
use Rattle.ul_version.specs.Fields.{Fields}
use Rattle.ul_version.proofs.ForCallers.{version_total}
use Rattle.ul_comparison.specs.Worlds.{WorldFields, IsWorld}
use Rattle.ul_requirement.specs.Fields.{RequirementFields}
use Rattle.ul_requirement.specs.Truth.{applies_at, base, meets, targets, with_extra}
use Rattle.ul_nodes.specs.Reduced.{IsReduced}
use Rattle.ul_index.specs.Applied.{IsApplied}
use Rattle.ul_index.specs.Catalogs.{Packages, requirements}
use Rattle.ul_index.specs.Eligible.{eligible}
use Rattle.ul_index.specs.Laws.{EligibleSame}
use Rattle.ul_index.specs.Serves.{ServesWhole, IsMet, choice_of}
use Rattle.ul_project.specs.Fields.{ProjectFields}
use Rattle.ul_lock.specs.declared.parts.Lock.{Lock}
use Rattle.ul_lock.specs.Walk.{Pick, HasPackage, Walk, WalkBegins, WalkLeads}
use Rattle.ul_sound.specs.Leaves.{LeafFields, worlds_of, supported_by, project_nodes, HasPair}
use Rattle.ul_sound.specs.Merged.{IsTrueEdge, IsMergedLock}
use Rattle.ul_sound.specs.Sound.{ClosureBegins, ClosureLeads, Closure, IsSoundAt, IsSound, AreProjectExtras}
use Rattle.ul_sound.specs.Headline.{AreServed, HasCatalogTexts}
use Rattle.ul_sound.proofs.RootVersion.{only_version}
use Rattle.ul_sound.proofs.Reading.{package_from, package_to, leads_from, leads_to}

module _ (law : EligibleSame) (c : Packages) (p : ProjectFields) (leaves : List LeafFields) (l : Lock) (h : AreServed c p leaves) (merged : IsMergedLock c p leaves l)
    (w : WorldFields) (is : IsWorld w) (within : supported_by p w ≡ true) (xs : List (List ℕ)) (asked : AreProjectExtras p xs) where
  reduced : IsReduced p.region
  reduced = h.project.region.reduced

  -- the leaf whose region has the world
  here : (k : LeafFields) × Contains leaves k × (worlds_of k w ≡ true)
  here = h.cover w is within

  served : ServesWhole c (project_nodes p) (worlds_of here.0) here.0.picks
  served = h.whole here.0 here.1

  root_chosen : (v : Fields) → HasPackage l l.root v → choice_of here.0.picks (base p.package.name) ≡ Some v
  root_chosen v k =
      let made : HasPair leaves p.package.name v = package_from c p leaves l reduced merged p.package.name v (subst (λ (r : List ℕ). HasPackage l r v) merged.root k) in
      let there : Contains (eligible c p.package.name) v = subst (λ (n : List ℕ). Contains (eligible c n) v) made.1 ((h.whole made.2.0 made.2.1).eligible_in made.0 v made.2.2) in
      let mine : (u : Fields) × (choice_of here.0.picks (base p.package.name) ≡ Some u) = served.starts_in (base p.package.name) (contains_first _ _) in
      mine.1 ∙ ap Some (only_version law c p.package.name h.begins mine.0 v (served.eligible_in (base p.package.name) mine.0 mine.1) there)

  extra_chosen : (v : Fields) (x : List ℕ) → choice_of here.0.picks (base p.package.name) ≡ Some v → Contains xs x → choice_of here.0.picks (with_extra p.package.name x) ≡ Some v
  extra_chosen v x e m =
      let mine : (u : Fields) × (choice_of here.0.picks (with_extra p.package.name x) ≡ Some u) =
      served.starts_in (with_extra p.package.name x) (contains_later _ _ _ (contains_map (with_extra p.package.name) p.extras x (asked x m))) in
      mine.1 ∙ ap Some (some_is (served.base_in (with_extra p.package.name x) mine.0 mine.1) e)

  edge_true : (q r : Pick) → WalkLeads l w q r → IsTrueEdge c leaves q r w
  edge_true q r e = leads_from c p leaves l reduced merged q r w is within e

  node_of : (n : Node) (x : List ℕ) → n.name ≡ l.root → n.extra ≡ Some x → n ≡ with_extra p.package.name x
  node_of n x e f = λ i. record { name = (e ∙ merged.root) i; extra = f i }

  base_is : (n : Node) → n.name ≡ l.root → n.extra ≡ (base n.name).extra → n ≡ base p.package.name
  base_is n e f = λ i. record { name = (e ∙ merged.root) i; extra = f i }

  begun_chosen : (q : Pick) → WalkBegins l xs q → choice_of here.0.picks q.0 ≡ Some q.1
  begun_chosen q k =
      let root : choice_of here.0.picks (base p.package.name) ≡ Some q.1 = root_chosen q.1 k.0 in
      ⊎_elim (λ e. subst (λ (n : Node). choice_of here.0.picks n ≡ Some q.1) (sym (base_is q.0 k.1.0 e)) root)
      (λ e. subst (λ (n : Node). choice_of here.0.picks n ≡ Some q.1) (sym (node_of q.0 e.0 k.1.0 e.2)) (extra_chosen q.1 e.0 root e.1))
      k.1.1

  led_chosen : (q r : Pick) → WalkLeads l w q r → choice_of here.0.picks r.0 ≡ Some r.1
  led_chosen q r e =
      let t : IsTrueEdge c leaves q r w = edge_true q r e in
      subst (λ (k : LeafFields). choice_of k.picks r.0 ≡ Some r.1) (h.apart w t.leaf here.0 is t.listed here.1 t.within here.2) t.target

  -- what the walk has, the leaf chose
  given : (n : Node) (v : Fields) → Walk l w xs (n, v) → choice_of here.0.picks n ≡ Some v
  given n v r = reached_in (λ (q : Pick). choice_of here.0.picks q.0 ≡ Some q.1) begun_chosen (λ q s _ _ e. led_chosen q s e) r

  met_on : (n : Node) (v : Fields) (q : RequirementFields) (t : Node) → Walk l w xs (n, v) → Contains (requirements c n.name v) q → applies_at q n w ≡ true → Contains (targets q) t
      → (u : Fields) × Walk l w xs (t, u) × (meets q u ≡ true)
  met_on n v q t r listed holds aimed =
      let applied : IsApplied (requirements c n.name v) (worlds_of here.0) n q = record { listed = listed; somewhere = (w, is, here.2, holds) } in
      let met : IsMet here.0.picks q t = served.needs_in n v q t (given n v r) applied aimed in
      let edge : IsTrueEdge c leaves (n, v) (t, met.0) w = record { leaf = here.0; listed = here.1; within = here.2; source = given n v r; target = met.1; requirement = q; applied = applied; aimed = aimed; holds = holds } in
      (met.0, led (n, v) (t, met.0) r (leads_to c p leaves l reduced merged (n, v) (t, met.0) w is within edge), met.2)

  to_closure : (q : Pick) → WalkBegins l xs q → Closure c p l w xs q.0
  to_closure q k = begun q.0 (⊎_elim (λ e. inl (base_is q.0 k.1.0 e)) (λ e. inr (e.0, e.1, node_of q.0 e.0 k.1.0 e.2)) k.1.1)

  closed : (n : Node) (v : Fields) → Walk l w xs (n, v) → Closure c p l w xs n
  closed n v r = reached_in (λ (q : Pick). Closure c p l w xs q.0) to_closure
      (λ q s walk done e. let t : IsTrueEdge c leaves q s w = edge_true q s e in
      led q.0 s.0 done (record { version = q.1; given = walk; requirement = t.requirement; listed = t.applied.listed; holds = t.holds; aimed = t.aimed })) r

  root_block : (v : Fields) × HasPackage l l.root v
  root_block =
      let mine : (u : Fields) × (choice_of here.0.picks (base p.package.name) ≡ Some u) = served.starts_in (base p.package.name) (contains_first _ _) in
      (mine.0, subst (λ (r : List ℕ). HasPackage l r mine.0) (sym merged.root) (package_to c p leaves l reduced merged p.package.name mine.0 (base p.package.name, refl, (here.0, here.1, mine.1))))

  from_start : (n : Node) → ClosureBegins p xs n → (v : Fields) × Walk l w xs (n, v)
  from_start n k = (
    root_block.0,
    begun (n, root_block.0) (
      root_block.1,
      ⊎_elim (λ e. (ap (λ (m : Node). m.name) e ∙ sym merged.root, inl (ap (λ (m : Node). m.extra) e)))
          (λ e. (ap (λ (m : Node). m.name) e.2 ∙ sym merged.root, inr (e.0, e.1, ap (λ (m : Node). m.extra) e.2))) k,
    ),
  )

  from_step : (n t : Node) → ClosureLeads c l w xs n t → (v : Fields) × Walk l w xs (t, v)
  from_step n t s = let found : (u : Fields) × Walk l w xs (t, u) × (meets s.requirement u ≡ true) = met_on n s.version s.requirement t s.given s.listed s.holds s.aimed in (found.0, found.1)

  covered : (n : Node) → Closure c p l w xs n → (v : Fields) × Walk l w xs (n, v)
  covered n r = reached_in (λ (t : Node). (v : Fields) × Walk l w xs (t, v)) from_start (λ a t _ _ s. from_step a t s) r

  one_version : (n m : Node) (v u : Fields) → Walk l w xs (n, v) → Walk l w xs (m, u) → n.name ≡ m.name → v ≡ u
  one_version n m v u r s e = some_is (served.base_in n v (given n v r)) (ap (λ (k : List ℕ). choice_of here.0.picks (base k)) e ∙ served.base_in m u (given m u s))

  sound_here : IsSoundAt c p l w xs
  sound_here = record {
    one_version = one_version;
    eligible_each = λ n v r. (v, served.eligible_in n v (given n v r), tied_itself version_total v);
    closure = λ n. ((λ k. closed n k.0 k.1), covered n);
    specifiers_met = met_on;
    fit = λ n v r. served.fit_in n v (given n v r) w is here.2;
  }

pub merges_sound : EligibleSame → (c : Packages) (p : ProjectFields) (leaves : List LeafFields) (l : Lock) → AreServed c p leaves → IsMergedLock c p leaves l → IsSound c p l
merges_sound law c p leaves l h merged w is within xs asked = sound_here law c p leaves l h merged w is within xs asked

-- what the walk has, the leaf of the world chose
pub given_chosen : EligibleSame → (c : Packages) (p : ProjectFields) (leaves : List LeafFields) (l : Lock) (h : AreServed c p leaves) → IsMergedLock c p leaves l
    → (w : WorldFields) (is : IsWorld w) (within : supported_by p w ≡ true) (xs : List (List ℕ)) → AreProjectExtras p xs → (n : Node) (v : Fields) → Walk l w xs (n, v) → choice_of (h.cover w is within).0.picks n ≡ Some v
unfolding here
given_chosen law c p leaves l h merged w is within xs asked n v r = given law c p leaves l h merged w is within xs asked n v r

-- what some leaf chose is eligible
pub pair_eligible : (c : Packages) (p : ProjectFields) (leaves : List LeafFields) → AreServed c p leaves → (n : List ℕ) (v : Fields) → HasPair leaves n v → Contains (eligible c n) v
pair_eligible c p leaves h n v k = subst (λ (m : List ℕ). Contains (eligible c m) v) k.1 ((h.whole k.2.0 k.2.1).eligible_in k.0 v k.2.2)

-- such a lock has each version as the catalog spells it
pub has_catalog_texts : (c : Packages) (p : ProjectFields) (leaves : List LeafFields) (l : Lock) → AreServed c p leaves → IsMergedLock c p leaves l → HasCatalogTexts c l
has_catalog_texts c p leaves l h merged b m = pair_eligible c p leaves h b.name b.version (merged.packages.wanted b m)
