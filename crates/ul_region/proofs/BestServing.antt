-- A best list, as a selection, serves its region.
use Rattle.std.proofs.Common.{◌≡◌, ◌⊎◌, ℕ, List, [], ◌∷◌, ◌++◌, map, not, is_some, true, Option, Some, None, Contains, sym, ap, ◌∙◌, subst, inl, inr, ⊎_elim, append_assoc, append-nil}
use Rattle.std.proofs.lemmas.List.Elements.{Contains-append_left, Contains-append_right, Contains-append_cases}
use Rattle.ul_base.specs.declared.node.Node.{Node}
use Rattle.ul_version.specs.Fields.{Fields}
use Rattle.ul_requirement.specs.Fields.{RequirementFields, WishFields}
use Rattle.ul_requirement.specs.Truth.{base, base_of, with_extra, targets}
use Rattle.ul_index.specs.Regions.{Region}
use Rattle.ul_index.specs.Catalogs.{Packages, requirements}
use Rattle.ul_index.specs.Applied.{IsFirm}
use Rattle.ul_index.specs.Serves.{Selection, Serves, IsMet, choice_of}
use Rattle.ul_index.specs.Preference.{preference}
use Rattle.ul_base.proofs.ForCallers.{contains_first, contains_later, contains_map, none_in, some_is, only_one}
use Rattle.ul_base.proofs.ForCallers.{contains_cases, contains_from_map, contains_flat, contains_from_flat, kept_has, kept_from, found_in, none_found}
use Rattle.ul_base.proofs.ForCallers.{first_holds}
use Rattle.ul_region.specs.Best.{Need, AreNeeds, AreJoined, needs_of, next, CanServe, IsBestFrom}
use Rattle.ul_region.specs.Laws.{BestServes, roots}
use Rattle.ul_region.proofs.Choices.{chosen_in, decided_is, none_chosen, target_named}

node_of : Need → Node
node_of t = t.node

-- a node that decisions put in sight: one of the project's, or a target of a firm requirement of a decided node
record InSight (c : Packages) (R : Region) (ds : Selection) (t : Node) : Type 0 where
  node : Node
  version : Fields
  requirement : RequirementFields
  decided : Contains ds (node, version)
  firm : IsFirm (requirements c node.name version) R node requirement
  aimed : Contains (targets requirement) t

need_at : RequirementFields → Node → Need
need_at q t = record { node = t; specifiers = q.specifiers }

module _ (c : Packages) (R : Region) where
  joined_to : (ds : Selection) (ts : List Need) → AreJoined c R ds ts → (n : Node) (v : Fields) (q : RequirementFields) (t : Node) → Contains ds (n, v) → IsFirm (requirements c n.name v) R n q → Contains (targets q) t → Contains ts (need_at q t)
  unfolding need_at
  joined_to [] ts h n v q t m f a = absurd (none_in _ m)
  joined_to (d ∷ ds) ts h n v q t m f a = subst (λ l. Contains l (need_at q t)) (sym h.joined)
      (⊎_elim (λ e. Contains-append_left h.own h.rest (need_at q t) (own_has e))
      (λ r. Contains-append_right h.own h.rest (need_at q t) (joined_to ds h.rest h.of_rest n v q t r f a)) (contains_cases d ds (n, v) m))
    where
      own_has : (n, v) ≡ d → Contains h.own (need_at q t)
      own_has e =
          let needs : AreNeeds (requirements c n.name v) R n h.own = subst (λ (x : Node × Fields). AreNeeds (requirements c x.0.name x.1) R x.0 h.own) (sym e) h.of_own in
          let firm : Contains needs.firm q = kept_has (IsFirm (requirements c n.name v) R n) (requirements c n.name v) needs.firm q needs.kept f.applied.listed f in
          subst (λ l. Contains l (need_at q t)) (sym needs.are) (contains_flat (needs_of) needs.firm q (need_at q t) firm (contains_map (need_at q) (targets q) t a))

  joined_from : (ds : Selection) (ts : List Need) → AreJoined c R ds ts → (t : Need) → Contains ts t → InSight c R ds t.node
  unfolding need_at
  joined_from [] ts h t m = absurd (none_in t (subst (λ l. Contains l t) h m))
  joined_from (d ∷ ds) ts h t m = ⊎_elim in_own (λ r. let s : InSight c R ds t.node = joined_from ds h.rest h.of_rest t r in
      record { node = s.node; version = s.version; requirement = s.requirement; decided = contains_later d ds _ s.decided; firm = s.firm; aimed = s.aimed })
      (Contains-append_cases h.own h.rest t (subst (λ l. Contains l t) h.joined m))
    where
      in_own : Contains h.own t → InSight c R (d ∷ ds) t.node
      in_own o =
          let q : (q : RequirementFields) × Contains h.of_own.firm q × Contains (needs_of q) t = contains_from_flat (needs_of) h.of_own.firm t (subst (λ l. Contains l t) h.of_own.are o) in
          let a : (n : Node) × Contains (targets q.0) n × (t ≡ need_at q.0 n) = contains_from_map (need_at q.0) (targets q.0) t q.2 in
          record {
            node = d.0;
            version = d.1;
            requirement = q.0;
            decided = contains_first d ds;
            firm = kept_from (IsFirm (requirements c d.0.name d.1) R d.0) (requirements c d.0.name d.1) h.of_own.firm q.0 h.of_own.kept q.1;
            aimed = subst (λ (x : Need). Contains (targets q.0) x.node) (sym a.2) a.1;
          }

  sight_more : (ds es : Selection) (t : Node) → InSight c R ds t → InSight c R (ds ++ es) t
  sight_more ds es t s = record { node = s.node; version = s.version; requirement = s.requirement; decided = Contains-append_left ds es _ s.decided; firm = s.firm; aimed = s.aimed }

module _ (c : Packages) (starts : List Node) (wish : WishFields) (R : Region) where
  -- the next node is one of the project's or in sight
  next_seen : (done : Selection) (ts : List Need) (n : Node) → AreJoined c R done ts → next starts done ts ≡ Some n → Contains starts n ⊎ InSight c R done n
  next_seen done ts n j e = ⊎_elim inl
      (λ m. let t : (t : Need) × Contains ts t × (n ≡ t.node) = contains_from_map (λ t. t.node) ts n m in inr (subst (InSight c R done) (sym t.2) (joined_from c R done ts j t.0 t.1)))
      (Contains-append_cases starts (map (λ t. t.node) ts) n (found_in (λ m. not (is_some (choice_of done m))) (starts ++ map (λ t. t.node) ts) n e))

  abbrev AllSeen : Selection → Type 0
  AllSeen ds = (n : Node) (v : Fields) → Contains ds (n, v) → Contains starts n ⊎ InSight c R ds n

  seen_next : (done : Selection) (d : Node × Fields) → AllSeen done → Contains starts d.0 ⊎ InSight c R done d.0 → AllSeen (done ++ d ∷ [])
  seen_next done d seen here n v m = ⊎_elim (λ r. ⊎_elim inl (λ s. inr (sight_more c R done (d ∷ []) n s)) (seen n v r))
      (λ r. let same : (n, v) ≡ d = only_one d (n, v) r in
      ⊎_elim (λ s. inl (subst (λ (x : Node × Fields). Contains starts x.0) (sym same) s)) (λ s. inr (sight_more c R done (d ∷ []) n (subst (λ (x : Node × Fields). InSight c R done x.0) (sym same) s))) here)
      (Contains-append_cases done (d ∷ []) (n, v) m)

  -- where the list ends, all that is in sight is decided, and some serving selection agrees
  record Ended (ds : Selection) : Type 0 where
    needs : List Need
    of_needs : AreJoined c R ds needs
    last : next starts ds needs ≡ None
    seen : AllSeen ds
    can : CanServe c starts wish R ds

  ended : (done ds : Selection) → AllSeen done → CanServe c starts wish R done → IsBestFrom c starts wish R done ds → Ended (done ++ ds)
  ended done [] seen can h = subst Ended (sym (append-nil done)) (record { needs = h.needs; of_needs = h.of_needs; last = h.last; seen = seen; can = can })
  ended done (d ∷ ds) seen can h = subst Ended (append_assoc done (d ∷ []) ds)
      (ended (done ++ d ∷ []) ds (seen_next done d seen (next_seen done h.needs d.0 h.of_needs h.node))
      (first_holds (λ v. CanServe c starts wish R (done ++ (d.0, v) ∷ [])) (preference c wish d.0.name) d.1 h.version) h.more)

  module _ (based : (n : Node) → Contains starts n → Contains starts (base_of n)) (ds : Selection) (end : Ended ds) where
    decided : (n : Node) → Contains starts n ⊎ InSight c R ds n → (v : Fields) × (choice_of ds n ≡ Some v)
    unfolding need_at
    decided n h = decided_is (choice_of ds n) (none_found (λ m. not (is_some (choice_of ds m))) (starts ++ map (λ t. t.node) end.needs) n end.last (⊎_elim
        (Contains-append_left starts (map (λ t. t.node) end.needs) n)
        (λ s. Contains-append_right starts (map (λ t. t.node) end.needs) n (contains_map (λ t. t.node) end.needs (need_at s.requirement n) (joined_to c R ds end.needs end.of_needs s.node s.version s.requirement n s.decided s.firm s.aimed))) h))

    sight_base : (n : Node) → Contains starts n ⊎ InSight c R ds n → Contains starts (base_of n) ⊎ InSight c R ds (base_of n)
    sight_base n h = ⊎_elim (λ s. inl (based n s)) (λ s. inr (record {
      node = s.node;
      version = s.version;
      requirement = s.requirement;
      decided = s.decided;
      firm = s.firm;
      aimed = subst (Contains (targets s.requirement)) (sym (target_named s.requirement n s.aimed)) (contains_first _ _);
    })) h

    base_too : (n : Node) (v : Fields) → choice_of ds n ≡ Some v → choice_of ds (base_of n) ≡ Some v
    base_too n v e =
        let found : (u : Fields) × (choice_of ds (base_of n) ≡ Some u) = decided (base_of n) (sight_base n (end.seen n v (chosen_in ds n v e))) in
        found.1 ∙ ap Some (some_is (end.can.agrees (base_of n) found.0 (chosen_in ds (base_of n) found.0 found.1)) (end.can.serves.base_in n v (end.can.agrees n v (chosen_in ds n v e))))

    need_too : (n : Node) (v : Fields) (q : RequirementFields) (t : Node) → choice_of ds n ≡ Some v → IsFirm (requirements c n.name v) R n q → Contains (targets q) t → IsMet ds q t
    need_too n v q t e f a =
        let found : (u : Fields) × (choice_of ds t ≡ Some u) = decided t (inr (record { node = n; version = v; requirement = q; decided = chosen_in ds n v e; firm = f; aimed = a })) in
        let met : IsMet end.can.selection q t = end.can.serves.needs_in n v q t (end.can.agrees n v (chosen_in ds n v e)) f a in
        (met.0, found.1 ∙ ap Some (some_is (end.can.agrees t found.0 (chosen_in ds t found.0 found.1)) met.1), met.2)

    serves_ended : Serves wish.strategy c starts R ds
    serves_ended = record {
      starts_in = λ n h. decided n (inl h);
      eligible_in = λ n v e. end.can.serves.eligible_in n v (end.can.agrees n v (chosen_in ds n v e));
      fit_in = λ n v e. end.can.serves.fit_in n v (end.can.agrees n v (chosen_in ds n v e));
      base_in = base_too;
      needs_in = need_too;
    }

based_roots : (p : List ℕ × List (List ℕ)) (n : Node) → Contains (roots p.0 p.1) n → Contains (roots p.0 p.1) (base_of n)
based_roots p n h = by_case (contains_cases (base p.0) (map (with_extra p.0) p.1) n h)
  where
    by_case : (n ≡ base p.0) ⊎ Contains (map (with_extra p.0) p.1) n → Contains (roots p.0 p.1) (base_of n)
    by_case (inl e) = subst (λ (m : Node). Contains (roots p.0 p.1) (base_of m)) (sym e) (contains_first _ _)
    by_case (inr m) = let found = contains_from_map (with_extra p.0) p.1 n m in subst (λ (m : Node). Contains (roots p.0 p.1) (base_of m)) (sym found.2) (contains_first _ _)

-- the first node is undecided at the start
not_at_once : (p : List ℕ × List (List ℕ)) (ts : List Need) → next (roots p.0 p.1) [] ts ≡ None → ⊥
not_at_once p ts e = let now = none_found (λ m. not (is_some (choice_of [] m))) (roots p.0 p.1 ++ map (λ t. t.node) ts) (base p.0) e (contains_first _ _) in
    let told : not (is_some (choice_of [] (base p.0))) ≡ true = ap (λ (o : Option Fields). not (is_some o)) (none_chosen (base p.0)) in cc

pub best_serves : BestServes
best_serves p c wish R [] h = absurd (not_at_once p h.needs h.last)
best_serves p c wish R (d ∷ ds) h = serves_ended c (roots p.0 p.1) wish R (based_roots p) (d ∷ ds)
    (ended c (roots p.0 p.1) wish R (d ∷ []) ds (seen_next c (roots p.0 p.1) wish R [] d (λ n v m. absurd (none_in _ m)) (next_seen c (roots p.0 p.1) wish R [] h.needs d.0 h.of_needs h.node))
    (first_holds (λ v. CanServe c (roots p.0 p.1) wish R ((d.0, v) ∷ [])) (preference c wish d.0.name) d.1 h.version) h.more)
