-- What is known of each node, as a list of facts, is a problem's: each node is right among them.
use Rattle.std.proofs.Common.{◌≡◌, ℕ, List, [], ◌∷◌, ◌++◌, length, get_or, flat_map, map, Option, Some, None, refl, sym, ap, subst, ◌∙◌, inl, inr, ⊎_elim}
use Rattle.std.specs.Prelude.{Contains, slice_get}
use Rattle.std.specs.List.{AllZip}
use Rattle.std.proofs.lemmas.Option.{none-some, slice_get_within, get_or_from_slice_get}
use Rattle.std.proofs.lemmas.Slice.Zip.{AllZip-long}
use Rattle.ul_base.specs.Nodes.{node_cmp-total}
use Rattle.ul_base.specs.declared.node.Node.{Node}
use Rattle.ul_base.proofs.ForCallers.{contains_first, contains_later, contains_cases, long_map, none_in}
use Rattle.ul_ranges.specs.Flags.{has}
use Rattle.ul_version.specs.Fields.{Fields}
use Rattle.ul_specifier.specs.Meaning.{meets_list}
use Rattle.ul_problem.specs.Plain.{base_in, size_in}
use Rattle.ul_problem.specs.Problems.{AllAre, AreNeeds, AreNeedsAfter, HasBase, HasTarget, Increases, IsAfterBase, IsBaseIn, IsNeedAfter, IsNodeOf, IsOrderOf, VersionBefore}
use Rattle.ul_problem.specs.declared.problem.Need.{Need as PlaceNeed}
use Rattle.ul_problem.specs.declared.problem.NodeFacts.{NodeFacts}
use Rattle.ul_requirement.specs.Fields.{RequirementFields, WishFields}
use Rattle.ul_requirement.specs.Truth.{base, base_of, with_extra}
use Rattle.ul_index.specs.Catalogs.{Packages}
use Rattle.ul_index.specs.Eligible.{eligible}
use Rattle.ul_index.specs.Regions.{Region}
use Rattle.ul_region.specs.Best.{Need, needs_of}
use Rattle.ul_region.specs.Problem.{AreNeedsAt, HasNeedsAt, IsFactsOf, IsNeedAt, AreVersionsAt}
use Rattle.ul_index.specs.Preference.{preference}
use Rattle.laws_trees.proofs.ForCallers.{flag_at}
use Rattle.ul_placing.proofs.Rising.{IsNodeLess, not_itself, one_place}
use Rattle.laws_problems.proofs.Drafting.{AreNeedsIn, IsBasePlace, IsDraft, IsNeedIn}
use Rattle.laws_problems.proofs.Zips.{zip_at}

-- ---- in which order needs stand

-- each target with an extra has its base among the targets before it
abbrev pub AreBased : List Node → List Need → Type 0
AreBased seen [] = Unit {0}
AreBased seen (t ∷ ts) = ((x : List ℕ) → t.node.extra ≡ Some x → Contains seen (base_of t.node))
    × AreBased (t.node ∷ seen) ts

extras_based : (make : Node → Need) → ((m : Node) → (make m).node ≡ m)
    → (n : List ℕ) (seen : List Node) (xs : List (List ℕ)) (rest : List Need) → Contains seen (base n)
    → ((later : List Node) → AreBased later rest)
    → AreBased seen (map make (map (with_extra n) xs) ++ rest)
extras_based make same n seen [] rest m h = h seen
extras_based make same n seen (x ∷ xs) rest m h = (
  (λ y e. subst (λ (z : Node). Contains seen (base_of z)) (sym (same (with_extra n x))) m),
  extras_based make same n ((make (with_extra n x)).node ∷ seen) xs rest
      (contains_later (make (with_extra n x)).node seen (base n) m) h,
)

-- the needs of requirements are such: each begins with its base
needs_based : (seen : List Node) (qs : List RequirementFields) → AreBased seen (flat_map needs_of qs)
needs_based seen [] = tt
needs_based seen (q ∷ qs) = (
  (λ x e. absurd (none-some x e)),
  extras_based (λ (m : Node). record { node = m; specifiers = q.specifiers }) (λ m. refl) q.name
      (base q.name ∷ seen) q.extras (flat_map needs_of qs) (contains_first (base q.name) seen)
      (λ later. needs_based later qs),
)

target_more : (b : ℕ) (xs ys : List PlaceNeed) → HasTarget b xs → HasTarget b (xs ++ ys)
target_more b [] ys h = absurd h
target_more b (x ∷ xs) ys h = ⊎_elim (λ e. inl e) (λ r. inr (target_more b xs ys r)) h

target_last : (xs : List PlaceNeed) (y : PlaceNeed) → HasTarget y.node (xs ++ y ∷ [])
target_last [] y = inl refl
target_last (x ∷ xs) y = inr (target_last xs y)

-- ---- the list of facts

module _ (c : Packages) (wish : WishFields) (R : Region) (nodes : List Node) (fs : List NodeFacts)
    (rise : Increases IsNodeLess nodes) (are : AllZip (IsDraft c wish R nodes) nodes fs) where
  -- what is known of the node at a place
  pub facts_at : (k : ℕ) (n : Node) → slice_get nodes k ≡ Some n → (f : NodeFacts) × (slice_get fs k ≡ Some f)
      × IsDraft c wish R nodes n f
  facts_at k n e = zip_at (IsDraft c wish R nodes) nodes fs k n are e

  -- a node stands at one place
  pub one_node : (j k : ℕ) (n : Node) → slice_get nodes j ≡ Some n → slice_get nodes k ≡ Some n → j ≡ k
  one_node j k n d e = one_place IsNodeLess node_cmp-total.trans nodes j k n n rise d e (not_itself n) (not_itself n)

  -- targets that were seen have needs among the earlier ones
  abbrev AreSeen : List Node → List PlaceNeed → Type 0
  AreSeen seen earlier = (m : Node) → Contains seen m → (j : ℕ) × (slice_get nodes j ≡ Some m) × HasTarget j earlier

  seen_more : (seen : List Node) (earlier : List PlaceNeed) (t : Need) (k : PlaceNeed) → IsNeedIn c nodes t k
      → AreSeen seen earlier → AreSeen (t.node ∷ seen) (earlier ++ k ∷ [])
  seen_more seen earlier t k is h m i = ⊎_elim
      (λ e. (k.node, subst (λ (z : Node). slice_get nodes k.node ≡ Some z) (sym e) is.at, target_last earlier k))
      (λ r. let f = h m r in (f.0, f.1, target_more f.0 earlier (k ∷ []) f.2)) (contains_cases t.node seen m i)

  after_base : (n : Node) (seen : List Node) (earlier : List PlaceNeed) (x : Option (List ℕ)) (o : Option ℕ)
      → ((y : List ℕ) → x ≡ Some y → Contains seen (base_of n)) → AreSeen seen earlier → IsBasePlace nodes n x o
      → IsAfterBase earlier o
  after_base n seen earlier None None s h b = tt
  after_base n seen earlier None (Some j) s h b = absurd b
  after_base n seen earlier (Some y) None s h b = absurd b
  after_base n seen earlier (Some y) (Some j) s h b = let f = h (base_of n) (s y refl) in
      subst (λ (i : ℕ). HasTarget i earlier) (one_node f.0 j (base_of n) f.1 b) f.2

  -- a need is right after the needs of the targets that were seen
  need_after : (seen : List Node) (earlier : List PlaceNeed) (t : Need) (k : PlaceNeed)
      → ((x : List ℕ) → t.node.extra ≡ Some x → Contains seen (base_of t.node)) → AreSeen seen earlier
      → IsNeedIn c nodes t k → IsNeedAfter fs earlier k
  need_after seen earlier t k s h is =
      let f = facts_at k.node t.node is.at in (
        slice_get_within fs k.node f.0 f.1,
        ap length is.permitted ∙ (long_map (meets_list t.specifiers) (eligible c t.node.name)
            ∙ (ap length (sym f.2.versions) ∙ ap size_in (sym f.1))),
        subst (IsAfterBase earlier) (sym (ap base_in f.1))
            (after_base t.node seen earlier t.node.extra f.0.base s h f.2.base),
      )

  needs_after : (seen : List Node) (earlier : List PlaceNeed) (ts : List Need) (ks : List PlaceNeed) → AreBased seen ts
      → AreSeen seen earlier → AllZip (IsNeedIn c nodes) ts ks → AreNeedsAfter fs earlier ks
  needs_after seen earlier [] [] b h z = tt
  needs_after seen earlier [] (k ∷ ks) b h z = absurd z
  needs_after seen earlier (t ∷ ts) [] b h z = absurd z
  needs_after seen earlier (t ∷ ts) (k ∷ ks) b h z = (
    need_after seen earlier t k b.0 h z.0,
    needs_after (t.node ∷ seen) (earlier ++ k ∷ []) ts ks b.1
        (seen_more seen earlier t k z.0 h) z.1,
  )

  row_needs : (n : Node) (x : Fields) (ks : List PlaceNeed) → AreNeedsIn c R nodes n x ks → AreNeeds fs ks
  row_needs n x ks r = needs_after [] [] (flat_map needs_of r.firm) ks (needs_based [] r.firm)
      (λ m i. absurd (none_in m i)) r.are

  rows_needs : (n : Node) (xs : List Fields) (rows : List (List PlaceNeed)) → AllZip (AreNeedsIn c R nodes n) xs rows
      → AllAre (AreNeeds fs) rows
  rows_needs n [] [] z = tt
  rows_needs n [] (r ∷ rows) z = absurd z
  rows_needs n (x ∷ xs) [] z = absurd z
  rows_needs n (x ∷ xs) (r ∷ rows) z = (row_needs n x r z.0, rows_needs n xs rows z.1)

  -- the facts at the place of a base are those of the base
  base_is : (n : Node) (f : NodeFacts) (b : ℕ) → IsDraft c wish R nodes n f → slice_get nodes b ≡ Some (base_of n)
      → IsBaseIn (slice_get fs b) f
  base_is n f b d e = let g = facts_at b (base_of n) e in
      subst (λ (z : Option NodeFacts). IsBaseIn z f) (sym g.1) (
        ap (λ (z : Node). z.name) g.2.node ∙ sym (ap (λ (z : Node). z.name) d.node),
        ap (λ (z : Node). z.extra) g.2.node,
        g.2.versions ∙ sym d.versions,
      )

  base_of_facts : (n : Node) (f : NodeFacts) (x : Option (List ℕ)) (o : Option ℕ) → IsDraft c wish R nodes n f
      → IsBasePlace nodes n x o → HasBase fs f x o
  base_of_facts n f None None d b = tt
  base_of_facts n f None (Some j) d b = absurd b
  base_of_facts n f (Some y) None d b = absurd b
  base_of_facts n f (Some y) (Some j) d b = base_is n f j d b

  -- each node is what a problem asks of it
  pub node_right : (n : Node) (f : NodeFacts) → Increases VersionBefore (eligible c n.name) → IsDraft c wish R nodes n f
      → IsNodeOf fs f
  node_right n f increase d = record {
    increasing = subst (Increases VersionBefore) (sym d.versions) increase;
    has_base = subst (λ (x : Option (List ℕ)). HasBase fs f x f.base) (sym (ap (λ (z : Node). z.extra) d.node))
        (base_of_facts n f n.extra f.base d d.base);
    is_order = subst (λ (z : List Fields). IsOrderOf (length z) f.order) (sym d.versions) d.order.whole;
    barred_size = d.barred.size ∙ ap length (sym d.versions);
    rows = AllZip-long (AreNeedsIn c R nodes n) (eligible c n.name) f.needs d.needs ∙ ap length (sym d.versions);
    needs = rows_needs n (eligible c n.name) f.needs d.needs;
  }

  -- ---- what a region says of each node

  need_at : (roots : List ℕ) (t : Need) (k : PlaceNeed) → IsNeedIn c nodes t k
      → IsNeedAt (record { roots = roots; nodes = fs }) k t
  need_at roots t k is = let f = facts_at k.node t.node is.at in record {
    facts = f.0;
    at = f.1;
    node = f.2.node;
    permitted = λ u y e. ap (has u) is.permitted ∙ flag_at (meets_list t.specifiers) (eligible c t.node.name) u y
        (subst (λ (z : List Fields). slice_get z u ≡ Some y) f.2.versions e);
  }

  needs_at : (roots : List ℕ) (ts : List Need) (ks : List PlaceNeed) → AllZip (IsNeedIn c nodes) ts ks
      → AreNeedsAt (record { roots = roots; nodes = fs }) ks ts
  needs_at roots [] [] z = tt
  needs_at roots [] (k ∷ ks) z = absurd z
  needs_at roots (t ∷ ts) [] z = absurd z
  needs_at roots (t ∷ ts) (k ∷ ks) z = (need_at roots t k z.0, needs_at roots ts ks z.1)

  -- the needs of a version are those of its firm requirements
  row_at : (roots : List ℕ) (n : Node) (f : NodeFacts) → IsDraft c wish R nodes n f → (v : ℕ) (x : Fields)
      → slice_get (eligible c n.name) v ≡ Some x → HasNeedsAt c R (record { roots = roots; nodes = fs }) n x
      (get_or f.needs v [])
  row_at roots n f d v x e =
      let ks = zip_at (AreNeedsIn c R nodes n) (eligible c n.name) f.needs v x d.needs e in
      subst (HasNeedsAt c R (record { roots = roots; nodes = fs }) n x)
      (sym (get_or_from_slice_get f.needs v ks.0 [] ks.1)) (record {
        needs = flat_map needs_of ks.2.firm;
        are = record { firm = ks.2.firm; kept = ks.2.kept; are = refl };
        at = needs_at roots (flat_map needs_of ks.2.firm) ks.0 ks.2.are;
      })

  -- what is known of each node is what the region says of it
  pub facts_right : (roots : List ℕ) (f : NodeFacts) → IsDraft c wish R nodes f.node f
      → IsFactsOf c wish R (record { roots = roots; nodes = fs }) f
  facts_right roots f d = record {
    versions = d.versions;
    order = subst (λ (z : List Fields). AreVersionsAt z f.order (preference c wish f.node.name))
        (sym d.versions) d.order.versions;
    barred = λ v x e. d.barred.each v x (subst (λ (z : List Fields). slice_get z v ≡ Some x) d.versions e);
    needs = λ v x e. row_at roots f.node f d v x (subst (λ (z : List Fields). slice_get z v ≡ Some x) d.versions e);
  }
