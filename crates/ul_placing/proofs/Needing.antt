-- The needs of a version, by ranks.
use Rattle.std.specs.Prelude.{Contains, slice_get, flat_map}
use Rattle.std.proofs.Common.{◌≡◌, ℕ, zero, suc, List, [], ◌∷◌, ◌++◌, length, map, option_map, Bool, Option, Some, None, refl, sym, ap, subst, ◌∙◌, inl, inr, ⊎_elim, zero-add}
use Rattle.std.proofs.lemmas.List.{append_assoc, append-nil, map-append}
use Rattle.std.proofs.lemmas.List.Elements.{Contains-append_left, Contains-append_right}
use Rattle.std.proofs.lemmas.Option.{none-some, same_Some, slice_get_within}
use Rattle.ul_base.specs.Kept.{Kept}
use Rattle.ul_base.specs.declared.node.Node.{Node}
use Rattle.ul_base.proofs.ForCallers.{some_is, long_map, contains_first, contains_later}
use Rattle.ul_ranges.specs.Flags.{has}
use Rattle.ul_version.specs.Fields.{Fields}
use Rattle.ul_specifier.specs.Meaning.{meets_list}
use Rattle.ul_problem.specs.Plain.{size_in, base_in}
use Rattle.ul_problem.specs.Problems.{AreNeedsAfter, IsNeedAfter, IsAfterBase, HasTarget}
use Rattle.ul_problem.specs.declared.problem.Need.{Need as PlaceNeed}
use Rattle.ul_problem.specs.declared.problem.NodeFacts.{NodeFacts}
use Rattle.ul_requirement.specs.Fields.{RequirementFields}
use Rattle.ul_requirement.specs.Truth.{base, base_of, with_extra}
use Rattle.ul_index.specs.Regions.{Region}
use Rattle.ul_region.specs.Best.{Need, needs_of}
use Rattle.ul_region.specs.Problem.{AreNeedsAt, IsNeedAt}
use Rattle.ul_region.specs.Rows.{requirement_of}
use Rattle.ul_region.specs.Truths.{PassView}
use Rattle.ul_region.specs.declared.rows.Asked.{Asked}
use Rattle.ul_prepared.specs.Prepared.{IsPrepared, IsAim, AreAims, AreRowAims}
use Rattle.ul_prepared.specs.declared.prepared.NameFacts.{NameFacts}
use Rattle.ul_prepared.specs.declared.prepared.Planned.{Planned}
use Rattle.ul_prepared.specs.declared.prepared.Prepared.{Prepared}
use Rattle.ul_placing.specs.Aims.{AreThoseOf}
use Rattle.ul_placing.specs.Facts.{AreFacts, IsFacts, need_ranked}
use Rattle.ul_placing.specs.Ranks.{rank_in, ranks_from}
use Rattle.ul_placing.specs.Reach.{IsLookedAt}
use Rattle.ul_placing.specs.declared.aims.NodeAims.{NodeAims}
use Rattle.ul_placing.proofs.Completing.{base_there}
use Rattle.ul_placing.proofs.Ranking.{ranked}
use Rattle.ul_placing.proofs.Rising.{one_planned}
use Rattle.ul_placing.proofs.Shared.{planned_at}

-- what is known of a node at its rank
pub record IsPlaced (R : Region) (p : Prepared) (ranks : List ℕ) (fs : List NodeFacts) (k : ℕ) (planned : Planned) (own : NodeAims) : Type 0 where
  pub facts : NodeFacts
  pub at : slice_get fs (rank_in ranks k) ≡ Some facts
  pub is : IsFacts R p ranks planned own facts

-- what is known of a node that was looked at stands at its rank
pub placed_at : (R : Region) (p : Prepared) (aims : List (Option NodeAims)) (ranks : List ℕ) (fs : List NodeFacts) (k : ℕ) (planned : Planned) (own : NodeAims) → ranks ≡ ranks_from 0 aims → AreFacts R p ranks p.nodes.items aims fs
    → slice_get p.nodes.items k ≡ Some planned → IsLookedAt aims k own → IsPlaced R p ranks fs k planned own
placed_at R p aims ranks fs k planned own e h at looked =
    let r = ranked R p ranks 0 p.nodes.items aims fs k planned own h at looked in
    let same : rank_in ranks k ≡ r.place = ap (λ (z : List ℕ). rank_in z k) e ∙ (r.rank ∙ zero-add r.place) in
    record { facts = r.facts; at = subst (λ (z : ℕ). slice_get fs z ≡ Some r.facts) (sym same) r.at; is = r.is }

-- a flag of a set that a test makes
has_map : {A : Type 0} (g : A → Bool) (xs : List A) (u : ℕ) (y : A) → slice_get xs u ≡ Some y → has u (map g xs) ≡ g y
has_map g [] u y e = absurd (none-some y e)
has_map g (x ∷ xs) zero y e = ap g (same_Some x y e)
has_map g (x ∷ xs) (suc u) y e = has_map g xs u y e

-- the needs of the requirements at which Q holds
pub record AreNeedsBy (Q : RequirementFields → Type 0) (names : List NameFacts) (nodes : List Planned) (qs : List RequirementFields) (ks : List PlaceNeed) : Type 0 where
  pub firm : List RequirementFields
  pub kept : Kept Q qs firm
  pub aims : AreAims names nodes ks (flat_map needs_of firm)

aims_append : (names : List NameFacts) (nodes : List Planned) (ks ls : List PlaceNeed) (ts us : List Need) → AreAims names nodes ks ts → AreAims names nodes ls us → AreAims names nodes (ks ++ ls) (ts ++ us)
aims_append names nodes [] ls [] us h k = k
aims_append names nodes [] ls (t ∷ ts) us h k = absurd h
aims_append names nodes (x ∷ ks) ls [] us h k = absurd h
aims_append names nodes (x ∷ ks) ls (t ∷ ts) us h k = (h.0, aims_append names nodes ks ls ts us h.1 k)

-- the needs by places are those of the requirements at which Q holds
pub those_needs : (Q : RequirementFields → Type 0) (names : List NameFacts) (nodes : List Planned) (asked : List Asked) (xs : List (List PlaceNeed)) (ks : List PlaceNeed) → AreThoseOf (λ (a : Asked). Q a.requirement.now) asked xs ks → AreRowAims names nodes xs asked
    → AreNeedsBy Q names nodes (map requirement_of asked) ks
those_needs Q names nodes [] [] ks h r = record { firm = []; kept = refl; aims = subst (λ (z : List PlaceNeed). AreAims names nodes z []) (sym h) tt }
those_needs Q names nodes [] (x ∷ xs) ks h r = absurd h
those_needs Q names nodes (a ∷ asked) [] ks h r = absurd h
those_needs Q names nodes (a ∷ asked) (x ∷ xs) ks (inl h) r = let f = those_needs Q names nodes asked xs h.rest h.more r.1 in record {
  firm = a.requirement.now ∷ f.firm;
  kept = inl (record { holds = h.holds; rest = f.firm; is = refl; more = f.kept });
  aims = subst (λ (z : List PlaceNeed). AreAims names nodes z (flat_map needs_of (a.requirement.now ∷ f.firm))) (sym h.are) (aims_append names nodes x h.rest (needs_of a.requirement.now) (flat_map needs_of f.firm) r.0 f.aims);
}
those_needs Q names nodes (a ∷ asked) (x ∷ xs) ks (inr h) r = let f = those_needs Q names nodes asked xs ks h.more r.1 in record { firm = f.firm; kept = inr (record { fails = h.fails; more = f.kept }); aims = f.aims }

-- ---- what stands before a need

has_target_more : (b : ℕ) (xs ys : List PlaceNeed) → HasTarget b xs → HasTarget b (xs ++ ys)
has_target_more b [] ys h = absurd h
has_target_more b (x ∷ xs) ys h = ⊎_elim (λ e. inl e) (λ r. inr (has_target_more b xs ys r)) h

has_target_last : (xs : List PlaceNeed) (y : PlaceNeed) → HasTarget y.node (xs ++ y ∷ [])
has_target_last [] y = inl refl
has_target_last (x ∷ xs) y = inr (has_target_last xs y)

after_append : (fs : List NodeFacts) (earlier xs ys : List PlaceNeed) → AreNeedsAfter fs earlier xs → AreNeedsAfter fs (earlier ++ xs) ys → AreNeedsAfter fs earlier (xs ++ ys)
after_append fs earlier [] ys h k = subst (λ (z : List PlaceNeed). AreNeedsAfter fs z ys) (append-nil earlier) k
after_append fs earlier (x ∷ xs) ys h k = (h.0, after_append fs (earlier ++ x ∷ []) xs ys h.1 (subst (λ (z : List PlaceNeed). AreNeedsAfter fs z ys) (sym (append_assoc earlier (x ∷ []) xs)) k))

after_base : (earlier : List PlaceNeed) (f : ℕ → ℕ) (o : Option ℕ) → ((b : ℕ) → o ≡ Some b → HasTarget (f b) earlier) → IsAfterBase earlier (option_map f o)
after_base earlier f None h = tt
after_base earlier f (Some b) h = h b refl

module _ (h : PassView) (R : Region) (p : Prepared) (aims : List (Option NodeAims)) (ranks : List ℕ) (fs : List NodeFacts)
    (all : IsPrepared h p) (rank : ranks ≡ ranks_from 0 aims) (facts : AreFacts R p ranks p.nodes.items aims fs) where
  -- the nodes that needs aim at were looked at
  abbrev pub AreLooked : List PlaceNeed → Type 0
  AreLooked ks = (k : PlaceNeed) → Contains ks k → (a : NodeAims) × IsLookedAt aims k.node a

  placed : (k : PlaceNeed) (t : Need) (aim : IsAim p.names.items p.nodes.items k t) (own : NodeAims) → IsLookedAt aims k.node own → IsPlaced R p ranks fs k.node aim.at.planned own
  placed k t aim own looked = placed_at R p aims ranks fs k.node aim.at.planned own rank facts aim.at.at looked

  -- the versions of the node that a need aims at
  target_versions : (k : PlaceNeed) (t : Need) (aim : IsAim p.names.items p.nodes.items k t) (own : NodeAims) (f : NodeFacts) → IsFacts R p ranks aim.at.planned own f → f.versions ≡ aim.facts.versions
  target_versions k t aim own f is = is.versions ∙ ap (λ (z : NameFacts). z.versions) (some_is is.at aim.at.facts)

  need_at : (roots : List ℕ) (k : PlaceNeed) (t : Need) (aim : IsAim p.names.items p.nodes.items k t) (own : NodeAims) → IsLookedAt aims k.node own → IsNeedAt (record { roots = roots; nodes = fs }) (need_ranked ranks k) t
  need_at roots k t aim own looked = let q = placed k t aim own looked in record {
    facts = q.facts;
    at = q.at;
    node = q.is.node ∙ aim.at.node;
    permitted = λ u y e. ap (λ (z : List Bool). has u z) aim.permitted
        ∙ has_map (meets_list t.specifiers) aim.facts.versions u y (subst (λ (z : List Fields). slice_get z u ≡ Some y) (target_versions k t aim own q.facts q.is) e);
  }

  -- the needs by ranks are the needs by nodes
  pub needs_at : (roots : List ℕ) (ks : List PlaceNeed) (ts : List Need) → AreAims p.names.items p.nodes.items ks ts → AreLooked ks → AreNeedsAt (record { roots = roots; nodes = fs }) (map (need_ranked ranks) ks) ts
  needs_at roots [] [] a l = tt
  needs_at roots [] (t ∷ ts) a l = absurd a
  needs_at roots (k ∷ ks) [] a l = absurd a
  needs_at roots (k ∷ ks) (t ∷ ts) a l = let o = l k (contains_first k ks) in (need_at roots k t a.0 o.0 o.1, needs_at roots ks ts a.1 (λ j c. l j (contains_later k ks j c)))

  need_after : (earlier : List PlaceNeed) (k : PlaceNeed) (t : Need) (aim : IsAim p.names.items p.nodes.items k t) (own : NodeAims) → IsLookedAt aims k.node own
      → ((b : ℕ) → aim.at.planned.base ≡ Some b → HasTarget (rank_in ranks b) earlier) → IsNeedAfter fs earlier (need_ranked ranks k)
  need_after earlier k t aim own looked based =
      let q = placed k t aim own looked in (
        slice_get_within fs (rank_in ranks k.node) q.facts q.at,
        ap length aim.permitted ∙ (long_map (meets_list t.specifiers) aim.facts.versions ∙ (ap length (sym (target_versions k t aim own q.facts q.is)) ∙ ap size_in (sym q.at))),
        subst (λ (z : Option ℕ). IsAfterBase earlier z) (sym (ap base_in q.at ∙ q.is.base)) (after_base earlier (rank_in ranks) aim.at.planned.base based),
      )

  -- a node's base is at the place of any node that is it
  pub base_is : (j : ℕ) (of planned : Planned) (b : ℕ) (k : ℕ) → slice_get p.nodes.items k ≡ Some planned → planned.base ≡ Some b → slice_get p.nodes.items j ≡ Some of → of.node ≡ base_of planned.node → b ≡ j
  base_is j of planned b k at e d same =
      let is = planned_at h p k planned all at in
      let told = base_there p.names.items p.nodes.items planned.node planned.base b is.facts is.base e in
      one_planned p.nodes.items b j told.1.planned of all.increasing told.1.at d (told.1.node ∙ sym same)

  -- a node without an extra has no base
  pub no_base : (planned : Planned) (b : ℕ) (k : ℕ) → slice_get p.nodes.items k ≡ Some planned → planned.base ≡ Some b → planned.node.extra ≡ None → ⊥
  no_base planned b k at e none = let is = planned_at h p k planned all at in (base_there p.names.items p.nodes.items planned.node planned.base b is.facts is.base e).0 none

  -- the needs of extras, where a need of their base stands before
  extras_after : (n : List ℕ) (make : Node → Need) → ((m : Node) → (make m).node ≡ m) → (j : PlaceNeed) (of : Planned) → slice_get p.nodes.items j.node ≡ Some of → of.node ≡ base n
      → (earlier ks : List PlaceNeed) (xs : List (List ℕ)) → AreAims p.names.items p.nodes.items ks (map make (map (with_extra n) xs)) → AreLooked ks → HasTarget (rank_in ranks j.node) earlier → AreNeedsAfter fs earlier (map (need_ranked ranks) ks)
  extras_after n make same j of d e earlier [] xs a l t = tt
  extras_after n make same j of d e earlier (k ∷ ks) [] a l t = absurd a
  extras_after n make same j of d e earlier (k ∷ ks) (x ∷ xs) a l t =
      let o = l k (contains_first k ks) in (
        need_after earlier k (make (with_extra n x)) a.0 o.0 o.1
            (λ b f. subst (λ (z : ℕ). HasTarget (rank_in ranks z) earlier)
            (sym (base_is j.node of a.0.at.planned b k.node a.0.at.at f d (e ∙ sym (ap base_of (a.0.at.node ∙ same (with_extra n x)))))) t),
        extras_after n make same j of d e (earlier ++ need_ranked ranks k ∷ []) ks xs a.1 (λ i c. l i (contains_later k ks i c)) (has_target_more (rank_in ranks j.node) earlier (need_ranked ranks k ∷ []) t),
      )

  -- the needs of a requirement: of the base, then of its extras
  block_after : (q : RequirementFields) (earlier ks : List PlaceNeed) → AreAims p.names.items p.nodes.items ks (needs_of q) → AreLooked ks → AreNeedsAfter fs earlier (map (need_ranked ranks) ks)
  block_after q earlier [] a l = absurd a
  block_after q earlier (k ∷ ks) a l =
      let o = l k (contains_first k ks) in
      let make : Node → Need = λ m. record { node = m; specifiers = q.specifiers } in (
        need_after earlier k (make (base q.name)) a.0 o.0 o.1 (λ b f. absurd (no_base a.0.at.planned b k.node a.0.at.at f (ap (λ (z : Node). z.extra) a.0.at.node))),
        extras_after q.name make (λ m. refl) k a.0.at.planned a.0.at.at a.0.at.node (earlier ++ need_ranked ranks k ∷ []) ks q.extras a.1 (λ i c. l i (contains_later k ks i c)) (has_target_last earlier (need_ranked ranks k)),
      )

  those_after : (P : Asked → Type 0) (earlier : List PlaceNeed) (asked : List Asked) (xs : List (List PlaceNeed)) (ks : List PlaceNeed) → AreThoseOf P asked xs ks → AreRowAims p.names.items p.nodes.items xs asked → AreLooked ks
      → AreNeedsAfter fs earlier (map (need_ranked ranks) ks)
  those_after P earlier [] [] ks a r l = subst (λ (z : List PlaceNeed). AreNeedsAfter fs earlier (map (need_ranked ranks) z)) (sym a) tt
  those_after P earlier [] (x ∷ xs) ks a r l = absurd a
  those_after P earlier (q ∷ asked) [] ks a r l = absurd a
  those_after P earlier (q ∷ asked) (x ∷ xs) ks (inl a) r l =
      let whole : AreLooked (x ++ a.rest) = λ j c. l j (subst (λ (z : List PlaceNeed). Contains z j) (sym a.are) c) in
      subst (λ (z : List PlaceNeed). AreNeedsAfter fs earlier (map (need_ranked ranks) z)) (sym a.are)
      (subst (λ (z : List PlaceNeed). AreNeedsAfter fs earlier z) (sym (map-append (need_ranked ranks) x a.rest))
      (after_append fs earlier (map (need_ranked ranks) x) (map (need_ranked ranks) a.rest)
      (block_after q.requirement.now earlier x r.0 (λ j c. whole j (Contains-append_left x a.rest j c)))
      (those_after P (earlier ++ map (need_ranked ranks) x) asked xs a.rest a.more r.1 (λ j c. whole j (Contains-append_right x a.rest j c)))))
  those_after P earlier (q ∷ asked) (x ∷ xs) ks (inr a) r l = those_after P earlier asked xs ks a.more r.1 l

  -- each need of an extra comes after one of its base
  pub needs_after : (P : Asked → Type 0) (asked : List Asked) (xs : List (List PlaceNeed)) (ks : List PlaceNeed) → AreThoseOf P asked xs ks → AreRowAims p.names.items p.nodes.items xs asked → AreLooked ks → AreNeedsAfter fs [] (map (need_ranked ranks) ks)
  needs_after P asked xs ks a r l = those_after P [] asked xs ks a r l
