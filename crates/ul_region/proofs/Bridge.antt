-- Selections of places and of versions that say the same serve alike.
use Rattle.std.proofs.Common.{◌≡◌, ◌<◌, ℕ, List, [], not, Bool, true, false, Option, Some, None, Contains, refl, sym, ap, subst, ◌∙◌, slice_get, get_or}
use Rattle.std.proofs.lemmas.Option.{none-some, same_Some, slice_get_within}
use Rattle.ul_base.specs.declared.node.Node.{Node}
use Rattle.ul_version.specs.Fields.{Fields}
use Rattle.ul_ranges.specs.Flags.{has}
use Rattle.ul_specifier.specs.Meaning.{meets_list}
use Rattle.ul_problem.specs.Terms.{Selection as Places, is_among}
use Rattle.ul_problem.specs.Plain.{Plain, node_at, size_in, size_of, barred_in, barred_of, base_in, base_of as base_place, needs_in, needs_of as place_needs}
use Rattle.ul_problem.specs.Serving.{Serves as PlacesServe}
use Rattle.ul_problem.specs.declared.problem.Need.{Need as PlaceNeed}
use Rattle.ul_problem.specs.declared.problem.NodeFacts.{NodeFacts}
use Rattle.ul_requirement.specs.Fields.{RequirementFields, WishFields}
use Rattle.ul_requirement.specs.Truth.{targets, base_of, meets}
use Rattle.ul_index.specs.Regions.{Region}
use Rattle.ul_index.specs.Catalogs.{Packages, requirements, is_fit}
use Rattle.ul_index.specs.Eligible.{eligible}
use Rattle.ul_index.specs.Applied.{IsFirm}
use Rattle.ul_index.specs.Serves.{Selection, Serves, choice_of, IsMet, Suits}
use Rattle.ul_base.proofs.ForCallers.{contains_map}
use Rattle.ul_base.proofs.ForCallers.{contains_from_map, contains_flat, contains_from_flat, kept_has, kept_from}
use Rattle.ul_region.specs.Best.{Need, AreNeeds, needs_of}
use Rattle.ul_region.specs.Problem.{IsAt, IsNeedAt, HasNeedsAt, IsProblemOf}
use Rattle.ul_region.specs.Naming.{IsPick, Matches, IsWithin}
use Rattle.ul_region.specs.Laws.{ServeAlike}
use Rattle.ul_region.proofs.Increasing.{version_place}
use Rattle.ul_region.proofs.Places.{contains_at, root_node, node_root, need_said, need_placed, node_whole, Based, based, has_base}

-- a picked place, with its version
pub record Picked (f : NodeFacts) (place : Option ℕ) (version : Option Fields) : Type 0 where
  pub v : ℕ
  pub x : Fields
  pub placed : place ≡ Some v
  pub stands : slice_get f.versions v ≡ Some x
  pub named : version ≡ Some x

from_place : (f : NodeFacts) (a : Option ℕ) (o : Option Fields) (v : ℕ) → IsPick f a o → a ≡ Some v → Picked f a o
from_place f None o v h e = absurd (none-some v e)
from_place f (Some u) o v h e = record { v = u; x = h.0; placed = refl; stands = h.1; named = h.2 }

from_name : (f : NodeFacts) (a : Option ℕ) (o : Option Fields) (x : Fields) → IsPick f a o → o ≡ Some x → Picked f a o
from_name f None o x h e = absurd (none-some x (sym h ∙ e))
from_name f (Some u) o x h e = record { v = u; x = h.0; placed = refl; stands = h.1; named = h.2 }

below : (n v : ℕ) (p : Plain) (f : NodeFacts) (x : Fields) → node_at p n ≡ Some f → slice_get f.versions v ≡ Some x → v < size_of p n
below n v p f x at e = subst (λ (o : Option NodeFacts). v < size_in o) (sym at) (slice_get_within f.versions v x e)

not_true : (b : Bool) → not b ≡ true → b ≡ false
not_true true e = cc
not_true false e = refl

not_false : (b : Bool) → b ≡ false → not b ≡ true
not_false true e = cc
not_false false e = refl

among : (o : Option ℕ) (u : ℕ) (s : List Bool) → o ≡ Some u → is_among o s ≡ has u s
among o u s e = ap (λ (a : Option ℕ). is_among a s) e

own_base : (n : Node) → n.extra ≡ None → base_of n ≡ n
own_base n e = λ i. record { name = n.name; extra = (sym e) i }

among_some : (o : Option ℕ) (s : List Bool) → is_among o s ≡ true → (u : ℕ) × (o ≡ Some u) × (has u s ≡ true)
among_some None s e = cc
among_some (Some u) s e = (u, refl, e)

need_at : RequirementFields → Node → Need
need_at q t = record { node = t; specifiers = q.specifiers }

module _ (c : Packages) (starts : List Node) (wish : WishFields) (R : Region) (p : Plain) (σ : Places) (s : Selection) (is : IsProblemOf c starts wish R p) (m : Matches p σ s) where
  pub picked_at : (k v : ℕ) (f : NodeFacts) → node_at p k ≡ Some f → σ k ≡ Some v → Picked f (σ k) (choice_of s f.node)
  picked_at k v f at e = from_place f (σ k) (choice_of s f.node) v (m.picks k f at) e

  pub named_at : (k : ℕ) (f : NodeFacts) (x : Fields) → node_at p k ≡ Some f → choice_of s f.node ≡ Some x → Picked f (σ k) (choice_of s f.node)
  named_at k f x at e = from_name f (σ k) (choice_of s f.node) x (m.picks k f at) e

  same_place : (f : NodeFacts) (k v : ℕ) (o : Option Fields) → σ k ≡ Some v → (t : Picked f (σ k) o) → t.v ≡ v
  same_place f k v o e t = same_Some t.v v (sym t.placed ∙ e)

  same_version : (f : NodeFacts) (a : Option ℕ) (o : Option Fields) (x : Fields) → o ≡ Some x → (t : Picked f a o) → t.x ≡ x
  same_version f a o x e t = same_Some t.x x (sym t.named ∙ e)

  -- the picked version stands at its place
  pub stands : (k v : ℕ) (f : NodeFacts) (o : Option Fields) → σ k ≡ Some v → (t : Picked f (σ k) o) → slice_get f.versions v ≡ Some t.x
  stands k v f o e t = subst (λ (u : ℕ). slice_get f.versions u ≡ Some t.x) (same_place f k v o e t) t.stands

  within_at : (k v : ℕ) (f : NodeFacts) → node_at p k ≡ Some f → σ k ≡ Some v → Picked f (σ k) (choice_of s f.node) → v < size_of p k
  within_at k v f at e t = below k v p f t.x at (stands k v f (choice_of s f.node) e t)

  -- a picked place is that of a version
  pub within_size : (k v : ℕ) → σ k ≡ Some v → v < size_of p k
  within_size k v e = let w = m.within k v e in within_at k v w.0 w.1 e (picked_at k v w.0 w.1 e)

  -- each root is picked where the selection has the nodes that it starts from
  module _ (starts_in : (n : Node) → Contains starts n → (x : Fields) × (choice_of s n ≡ Some x)) where
    start_at : (k : ℕ) (n : Node) → Contains starts n → IsAt p k n → (x : Fields) → choice_of s n ≡ Some x → (v : ℕ) × (σ k ≡ Some v)
    start_at k n i at x e = let t = named_at k at.0 x at.1 (ap (choice_of s) at.2 ∙ e) in (t.v, t.placed)

    rooted_by : (k : ℕ) → ((n : Node) × Contains starts n × IsAt p k n) → (v : ℕ) × (σ k ≡ Some v)
    rooted_by k r = let found = starts_in r.0 r.1 in start_at k r.0 r.1 r.2 found.0 found.1

    pub rooted : (k : ℕ) → Contains p.roots k → (v : ℕ) × (σ k ≡ Some v)
    rooted k i = rooted_by k (root_node p p.roots starts k is.roots i)

  -- no picked version is barred where each chosen one suits the strategy
  module _ (suits : (n : Node) (x : Fields) → choice_of s n ≡ Some x → Suits wish.strategy R (is_fit c n.name x)) where
    fit_from : (k v : ℕ) (f : NodeFacts) → node_at p k ≡ Some f → σ k ≡ Some v → Picked f (σ k) (choice_of s f.node) → has v f.barred ≡ false
    fit_from k v f at e t = not_true (has v f.barred) (((is.facts k f at).barred v t.x (stands k v f (choice_of s f.node) e t)).1 (suits f.node t.x t.named))

    barred_at : (k v : ℕ) (f : NodeFacts) → node_at p k ≡ Some f → has v f.barred ≡ false → has v (barred_of p k) ≡ false
    barred_at k v f at e = subst (λ (o : Option NodeFacts). has v (barred_in o) ≡ false) (sym at) e

    pub fit_at : (k v : ℕ) → σ k ≡ Some v → has v (barred_of p k) ≡ false
    fit_at k v e = let w = m.within k v e in barred_at k v w.0 w.1 (fit_from k v w.0 w.1 e (picked_at k v w.0 w.1 e))

  -- an extra's base is picked at the same place where each chosen node's base has its version
  module _ (bases : (n : Node) (x : Fields) → choice_of s n ≡ Some x → choice_of s (base_of n) ≡ Some x) where
    base_named : (f : NodeFacts) (b : ℕ) (base : Based p f b) (x : Fields) → choice_of s f.node ≡ Some x → choice_of s base.facts.node ≡ Some x
    base_named f b base x e = ap (choice_of s) base.node ∙ bases f.node x e

    base_stands : (f : NodeFacts) (b : ℕ) (base : Based p f b) (x : Fields) → choice_of s base.facts.node ≡ Some x → (u : Picked base.facts (σ b) (choice_of s base.facts.node)) → slice_get f.versions u.v ≡ Some x
    base_stands f b base x e u = subst (λ (l : List Fields). slice_get l u.v ≡ Some x) base.versions (subst (λ (y : Fields). slice_get base.facts.versions u.v ≡ Some y) (same_version base.facts (σ b) (choice_of s base.facts.node) x e u) u.stands)

    based_by : (k v b : ℕ) (f : NodeFacts) → node_at p k ≡ Some f → σ k ≡ Some v → (t : Picked f (σ k) (choice_of s f.node)) (base : Based p f b) → choice_of s base.facts.node ≡ Some t.x
        → Picked base.facts (σ b) (choice_of s base.facts.node) → σ b ≡ Some v
    based_by k v b f at e t base n u = u.placed ∙ ap Some (version_place f.versions u.v v t.x (node_whole p k f is.well_formed at).increasing (base_stands f b base t.x n u) (stands k v f (choice_of s f.node) e t))

    based_from : (k v b : ℕ) (f : NodeFacts) → node_at p k ≡ Some f → σ k ≡ Some v → Picked f (σ k) (choice_of s f.node) → Based p f b → σ b ≡ Some v
    based_from k v b f at e t base = let n = base_named f b base t.x t.named in based_by k v b f at e t base n (named_at b base.facts t.x base.at n)

    based_at : (k v b : ℕ) (f : NodeFacts) → node_at p k ≡ Some f → σ k ≡ Some v → base_place p k ≡ Some b → σ b ≡ Some v
    based_at k v b f at e g = based_from k v b f at e (picked_at k v f at e) (based p f b f.node.extra f.base (node_whole p k f is.well_formed at).has_base (subst (λ (o : Option NodeFacts). base_in o ≡ Some b) at g))

    pub base_at : (k v b : ℕ) → σ k ≡ Some v → base_place p k ≡ Some b → σ b ≡ Some v
    base_at k v b e g = let w = m.within k v e in based_at k v b w.0 w.1 e g

  aim_named : (need : PlaceNeed) (t : Need) (g : IsNeedAt p need t) (y : Fields) → choice_of s t.node ≡ Some y → choice_of s g.facts.node ≡ Some y
  aim_named need t g y e = ap (choice_of s) g.node ∙ e

  met_by : (need : PlaceNeed) (t : Need) (g : IsNeedAt p need t) (y : Fields) → meets_list t.specifiers y ≡ true → choice_of s g.facts.node ≡ Some y → Picked g.facts (σ need.node) (choice_of s g.facts.node)
      → is_among (σ need.node) need.permitted ≡ true
  met_by need t g y meets n u = among (σ need.node) u.v need.permitted u.placed ∙ (g.permitted u.v u.x u.stands
      ∙ subst (λ (z : Fields). meets_list t.specifiers z ≡ true) (sym (same_version g.facts (σ need.node) (choice_of s g.facts.node) y n u)) meets)

  -- a need is met where the selection has its node at a version that meets its specifiers
  pub met : (need : PlaceNeed) (t : Need) (g : IsNeedAt p need t) (y : Fields) → choice_of s t.node ≡ Some y → meets_list t.specifiers y ≡ true → is_among (σ need.node) need.permitted ≡ true
  met need t g y e meets = let n = aim_named need t g y e in met_by need t g y meets n (named_at need.node g.facts y g.at n)

  module _ (h : Serves wish.strategy c starts R s) where
    -- a need of a decided node is met
    need_met : (n : Node) (x : Fields) (ts : List Need) (are : AreNeeds (requirements c n.name x) R n ts) → choice_of s n ≡ Some x → (t : Need) → Contains ts t → (y : Fields) × (choice_of s t.node ≡ Some y) × (meets_list t.specifiers y ≡ true)
    unfolding need_at
    need_met n x ts are e t i = by_requirement (contains_from_flat needs_of are.firm t (subst (λ l. Contains l t) are.are i))
      where
        by_target : (q : RequirementFields) → Contains are.firm q → ((a : Node) × Contains (targets q) a × (t ≡ need_at q a)) → (y : Fields) × (choice_of s t.node ≡ Some y) × (meets_list t.specifiers y ≡ true)
        by_target q j a = subst (λ (b : Need). (y : Fields) × (choice_of s b.node ≡ Some y) × (meets_list b.specifiers y ≡ true)) (sym a.2)
            (h.needs_in n x q a.0 e (kept_from (IsFirm (requirements c n.name x) R n) (requirements c n.name x) are.firm q are.kept j) a.1)

        by_requirement : ((q : RequirementFields) × Contains are.firm q × Contains (needs_of q) t) → (y : Fields) × (choice_of s t.node ≡ Some y) × (meets_list t.specifiers y ≡ true)
        by_requirement q = by_target q.0 q.1 (contains_from_map (need_at q.0) (targets q.0) t q.2)

    met_said : (need : PlaceNeed) (n : Node) (x : Fields) (ts : List Need) → AreNeeds (requirements c n.name x) R n ts → choice_of s n ≡ Some x → ((t : Need) × Contains ts t × IsNeedAt p need t) → is_among (σ need.node) need.permitted ≡ true
    met_said need n x ts are e t = let y = need_met n x ts are e t.0 t.1 in met need t.0 t.2 y.0 y.1 y.2

    met_row : (need : PlaceNeed) (f : NodeFacts) (x : Fields) (ks : List PlaceNeed) → HasNeedsAt c R p f.node x ks → choice_of s f.node ≡ Some x → Contains ks need → is_among (σ need.node) need.permitted ≡ true
    met_row need f x ks here e i = met_said need f.node x here.needs here.are e (need_said p ks here.needs need here.at i)

    met_at : (k v : ℕ) (f : NodeFacts) → node_at p k ≡ Some f → σ k ≡ Some v → (need : PlaceNeed) → Contains (get_or f.needs v []) need → Picked f (σ k) (choice_of s f.node) → is_among (σ need.node) need.permitted ≡ true
    met_at k v f at e need i t = met_row need f t.x (get_or f.needs t.v []) ((is.facts k f at).needs t.v t.x t.stands) t.named
        (subst (λ (u : ℕ). Contains (get_or f.needs u []) need) (sym (same_place f k v (choice_of s f.node) e t)) i)

    row_at : (k v : ℕ) (f : NodeFacts) (need : PlaceNeed) → node_at p k ≡ Some f → Contains (place_needs p k v) need → Contains (get_or f.needs v []) need
    row_at k v f need at i = subst (λ (o : Option NodeFacts). Contains (needs_in o v) need) at i

    pub places_serve : PlacesServe p σ
    places_serve = record {
      within = λ k v e. within_size k v e;
      has_roots = λ k i. rooted h.starts_in k i;
      fit = λ k v e. fit_at h.fit_in k v e;
      same_base = λ k v b e g. base_at h.base_in k v b e g;
      meets = λ k v e need i. let w = m.within k v e in met_at k v w.0 w.1 e need (row_at k v w.0 need w.1 i) (picked_at k v w.0 w.1 e);
    }

  module _ (inside : IsWithin p s) (h : PlacesServe p σ) where
    starts_from : (n : Node) (k v : ℕ) (f : NodeFacts) → node_at p k ≡ Some f → f.node ≡ n → σ k ≡ Some v → (x : Fields) × (choice_of s n ≡ Some x)
    starts_from n k v f at same e = let t = picked_at k v f at e in (t.x, ap (choice_of s) (sym same) ∙ t.named)

    starts_by : (n : Node) → ((k : ℕ) × Contains p.roots k × IsAt p k n) → (x : Fields) × (choice_of s n ≡ Some x)
    starts_by n r = let v = h.has_roots r.0 r.1 in starts_from n r.0 v.0 r.2.0 r.2.1 r.2.2 v.1

    stands_at : (f : NodeFacts) (k : ℕ) (x : Fields) → choice_of s f.node ≡ Some x → (t : Picked f (σ k) (choice_of s f.node)) → slice_get f.versions t.v ≡ Some x
    stands_at f k x e t = subst (λ (y : Fields). slice_get f.versions t.v ≡ Some y) (same_version f (σ k) (choice_of s f.node) x e t) t.stands

    eligible_at : (k : ℕ) (f : NodeFacts) (x : Fields) → node_at p k ≡ Some f → choice_of s f.node ≡ Some x → Contains (eligible c f.node.name) x
    eligible_at k f x at e = let t = named_at k f x at e in subst (λ l. Contains l x) (is.facts k f at).versions (contains_at f.versions t.v x (stands_at f k x e t))

    unbarred : (k v : ℕ) (f : NodeFacts) → node_at p k ≡ Some f → has v (barred_of p k) ≡ false → has v f.barred ≡ false
    unbarred k v f at e = subst (λ (o : Option NodeFacts). has v (barred_in o) ≡ false) at e

    suits_at : (k : ℕ) (f : NodeFacts) (x : Fields) → node_at p k ≡ Some f → choice_of s f.node ≡ Some x → Suits wish.strategy R (is_fit c f.node.name x)
    suits_at k f x at e = let t = named_at k f x at e in ((is.facts k f at).barred t.v x (stands_at f k x e t)).0 (not_false (has t.v f.barred) (unbarred k t.v f at (h.fit k t.v t.placed)))

    base_from : (f : NodeFacts) (b v : ℕ) (x : Fields) (base : Based p f b) → slice_get f.versions v ≡ Some x → σ b ≡ Some v → Picked base.facts (σ b) (choice_of s base.facts.node) → choice_of s (base_of f.node) ≡ Some x
    base_from f b v x base stands e u =
        let there : slice_get base.facts.versions v ≡ Some u.x = subst (λ (j : ℕ). slice_get base.facts.versions j ≡ Some u.x) (same_place base.facts b v (choice_of s base.facts.node) e u) u.stands in
        let here : slice_get base.facts.versions v ≡ Some x = subst (λ (l : List Fields). slice_get l v ≡ Some x) (sym base.versions) stands in
        ap (choice_of s) (sym base.node) ∙ (u.named ∙ ap Some (same_Some u.x x (sym there ∙ here)))

    base_with : (k : ℕ) (f : NodeFacts) (x : Fields) → node_at p k ≡ Some f → choice_of s f.node ≡ Some x → ((b : ℕ) × (f.base ≡ Some b)) → choice_of s (base_of f.node) ≡ Some x
    base_with k f x at e b =
        let t = named_at k f x at e in
        let there : σ b.0 ≡ Some t.v = h.same_base k t.v b.0 t.placed (subst (λ (o : Option NodeFacts). base_in o ≡ Some b.0) (sym at) b.1) in
        let base = based p f b.0 f.node.extra f.base (node_whole p k f is.well_formed at).has_base b.1 in
        base_from f b.0 t.v x base (stands_at f k x e t) there (picked_at b.0 t.v base.facts base.at there)

    base_by : (k : ℕ) (f : NodeFacts) (x : Fields) → node_at p k ≡ Some f → choice_of s f.node ≡ Some x → (y : Option (List ℕ)) → f.node.extra ≡ y → choice_of s (base_of f.node) ≡ Some x
    base_by k f x at e None y = ap (choice_of s) (own_base f.node y) ∙ e
    base_by k f x at e (Some z) y = base_with k f x at e (has_base p f z f.node.extra f.base (node_whole p k f is.well_formed at).has_base y)

    row_of : (k v : ℕ) (f : NodeFacts) (need : PlaceNeed) → node_at p k ≡ Some f → Contains (get_or f.needs v []) need → Contains (place_needs p k v) need
    row_of k v f need at i = subst (λ (o : Option NodeFacts). Contains (needs_in o v) need) (sym at) i

    is_met : (q : RequirementFields) (a : Node) (need : PlaceNeed) (g : IsNeedAt p need (need_at q a)) (u : ℕ) → has u need.permitted ≡ true → σ need.node ≡ Some u → Picked g.facts (σ need.node) (choice_of s g.facts.node) → IsMet s q a
    unfolding need_at
    is_met q a need g u allowed e t = (
      t.x,
      ap (choice_of s) (sym g.node) ∙ t.named,
      sym (g.permitted t.v t.x t.stands) ∙ subst (λ (j : ℕ). has j need.permitted ≡ true) (sym (same_place g.facts need.node u (choice_of s g.facts.node) e t)) allowed,
    )

    met_need : (q : RequirementFields) (a : Node) (need : PlaceNeed) (g : IsNeedAt p need (need_at q a)) → ((u : ℕ) × (σ need.node ≡ Some u) × (has u need.permitted ≡ true)) → IsMet s q a
    met_need q a need g u = is_met q a need g u.0 u.2 u.1 (picked_at need.node u.0 g.facts g.at u.1)

    met_in : (k v : ℕ) (f : NodeFacts) (q : RequirementFields) (a : Node) → node_at p k ≡ Some f → σ k ≡ Some v → ((need : PlaceNeed) × Contains (get_or f.needs v []) need × IsNeedAt p need (need_at q a)) → IsMet s q a
    met_in k v f q a at e need = met_need q a need.0 need.2 (among_some (σ need.0.node) need.0.permitted (h.meets k v e need.0 (row_of k v f need.0 at need.1)))

    has_need : (n : Node) (x : Fields) (ts : List Need) → AreNeeds (requirements c n.name x) R n ts → (q : RequirementFields) → IsFirm (requirements c n.name x) R n q → (a : Node) → Contains (targets q) a → Contains ts (need_at q a)
    unfolding need_at
    has_need n x ts are q firm a i = subst (λ l. Contains l (need_at q a)) (sym are.are) (contains_flat needs_of are.firm q (need_at q a)
        (kept_has (IsFirm (requirements c n.name x) R n) (requirements c n.name x) are.firm q are.kept firm.applied.listed firm) (contains_map (need_at q) (targets q) a i))

    met_with : (k v : ℕ) (f : NodeFacts) (x : Fields) (q : RequirementFields) (a : Node) → node_at p k ≡ Some f → σ k ≡ Some v → HasNeedsAt c R p f.node x (get_or f.needs v []) → IsFirm (requirements c f.node.name x) R f.node q
        → Contains (targets q) a → IsMet s q a
    met_with k v f x q a at e here firm i = met_in k v f q a at e (need_placed p (get_or f.needs v []) here.needs (need_at q a) here.at (has_need f.node x here.needs here.are q firm a i))

    met_named : (k : ℕ) (f : NodeFacts) (x : Fields) (q : RequirementFields) (a : Node) → node_at p k ≡ Some f → choice_of s f.node ≡ Some x → IsFirm (requirements c f.node.name x) R f.node q → Contains (targets q) a → IsMet s q a
    met_named k f x q a at e firm i = let t = named_at k f x at e in met_with k t.v f x q a at t.placed ((is.facts k f at).needs t.v x (stands_at f k x e t)) firm i

    -- what is so of each node of the problem is so of each chosen node
    at_each : (P : Node → Fields → Type 0) → ((k : ℕ) (f : NodeFacts) (x : Fields) → node_at p k ≡ Some f → choice_of s f.node ≡ Some x → P f.node x) → (n : Node) (x : Fields) → choice_of s n ≡ Some x → P n x
    at_each P each n x e = let w = inside n x e in
        subst (λ (m : Node). P m x) w.1.2 (each w.0 w.1.0 x w.1.1 (ap (choice_of s) w.1.2 ∙ e))

    pub names_serve : Serves wish.strategy c starts R s
    names_serve = record {
      starts_in = λ n i. starts_by n (node_root p p.roots starts n is.roots i);
      eligible_in = at_each (λ n x. Contains (eligible c n.name) x) eligible_at;
      fit_in = at_each (λ n x. Suits wish.strategy R (is_fit c n.name x)) suits_at;
      base_in = at_each (λ n x. choice_of s (base_of n) ≡ Some x) (λ k f x at e. base_by k f x at e f.node.extra refl);
      needs_in = λ n x q a e firm i. at_each (λ n x. IsFirm (requirements c n.name x) R n q → IsMet s q a) (λ k f x at e firm. met_named k f x q a at e firm i) n x e firm;
    }

pub serve_alike : ServeAlike
serve_alike c starts wish R p σ s is m inside = (λ h. names_serve c starts wish R p σ s is m inside h, λ h. places_serve c starts wish R p σ s is m h)
