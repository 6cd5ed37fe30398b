-- Each node of a best selection is one that it starts from, or is needed by another node of it.
use Rattle.std.proofs.Common.{◌≡◌, ◌∙◌, ◌⊎◌, List, [], ◌∷◌, ◌++◌, map, find, Bool, true, false, cond, not, is_some, Option, Some, None, Contains, refl, sym, ap, subst, inl, inr, append_assoc}
use Rattle.std.specs.Cmp.{tied_itself}
use Rattle.std.specs.Ordering.{is_eq}
use Rattle.std.proofs.lemmas.List.{append-nil}
use Rattle.std.proofs.lemmas.List.Elements.{Contains-append_cases}
use Rattle.std.proofs.lemmas.Option.{same_Some}
use Rattle.ul_base.specs.Nodes.{node_cmp-total, node_eq, node_ties}
use Rattle.ul_base.specs.declared.node.Node.{Node}
use Rattle.ul_base.proofs.ForCallers.{contains_cases, contains_first, contains_from_flat, contains_from_map, contains_later, found_in, kept_from, none_in, only_one}
use Rattle.ul_version.specs.Fields.{Fields}
use Rattle.ul_requirement.specs.Fields.{RequirementFields, WishFields}
use Rattle.ul_requirement.specs.Truth.{targets}
use Rattle.ul_index.specs.Applied.{IsFirm}
use Rattle.ul_index.specs.Catalogs.{Packages, requirements}
use Rattle.ul_index.specs.Regions.{Region}
use Rattle.ul_index.specs.Serves.{Selection, choice_of}
use Rattle.ul_region.specs.Best.{AreJoined, IsBestFrom, Need, needs_of, next}

-- what a search finds passes the test
found_now : {A : Type 0} (test : A → Bool) (y x : A) (xs : List A) (b : Bool) → test y ≡ b → (find test xs ≡ Some x → test x ≡ true)
    → cond b (Some y) (find test xs) ≡ Some x → test x ≡ true
found_now test y x xs true t later e = ap test (sym (same_Some y x e)) ∙ t
found_now test y x xs false t later e = later e

found_passes : {A : Type 0} (test : A → Bool) (xs : List A) (x : A) → find test xs ≡ Some x → test x ≡ true
found_passes test [] x e = cc
found_passes test (y ∷ xs) x e = found_now test y x xs (test y) refl (found_passes test xs x) e

-- a node is itself
itself : (n : Node) → node_eq n n ≡ true
itself n = node_ties n n ∙ ap is_eq (tied_itself node_cmp-total n)

-- ---- what a selection has for a node

-- what it has stays where more is decided
kept_on : (ds es : Selection) (n : Node) (v : Fields) → choice_of ds n ≡ Some v → choice_of (ds ++ es) n ≡ Some v
unfolding choice_of
kept_on [] es n v e = cc
kept_on (d ∷ ds) es n v e = by_test (node_eq d.0 n) e (kept_on ds es n v)
  where
    by_test : (b : Bool) → cond b (Some d.1) (choice_of ds n) ≡ Some v → (choice_of ds n ≡ Some v → choice_of (ds ++ es) n ≡ Some v)
        → cond b (Some d.1) (choice_of (ds ++ es) n) ≡ Some v
    by_test true e on = e
    by_test false e on = on e

-- what is decided of a node that wasn't decided
decided_now : (ds : Selection) (d : Node × Fields) → choice_of ds d.0 ≡ None → choice_of (ds ++ d ∷ []) d.0 ≡ Some d.1
unfolding choice_of
decided_now [] d e = ap (λ b. cond b (Some d.1) None) (itself d.0)
decided_now (x ∷ ds) d e = by_test (node_eq x.0 d.0) e (decided_now ds d)
  where
    by_test : (b : Bool) → cond b (Some x.1) (choice_of ds d.0) ≡ None → (choice_of ds d.0 ≡ None → choice_of (ds ++ d ∷ []) d.0 ≡ Some d.1)
        → cond b (Some x.1) (choice_of (ds ++ d ∷ []) d.0) ≡ Some d.1
    by_test true e on = cc
    by_test false e on = on e

-- each decision is what the selection has for its node
abbrev pub AreChosen : Selection → Type 0
AreChosen ds = (d : Node × Fields) → Contains ds d → choice_of ds d.0 ≡ Some d.1

none_of : (o : Option Fields) → not (is_some o) ≡ true → o ≡ None
none_of None e = refl
none_of (Some v) e = cc

module _ (c : Packages) (starts : List Node) (wish : WishFields) (R : Region) where
  -- a firm requirement of a node's release aims at the node
  pub record IsAimedAt (d : Node × Fields) (n : Node) : Type 0 where
    pub requirement : RequirementFields
    pub firm : IsFirm (requirements c d.0.name d.1) R d.0 requirement
    pub aimed : Contains (targets requirement) n

  -- it is one of the nodes that the selection starts from, or a requirement of another one's release aims at it
  pub record IsNeededBy (ds : Selection) (n : Node) : Type 0 where
    pub from : Node × Fields
    pub chosen : choice_of ds from.0 ≡ Some from.1
    pub by : IsAimedAt from n

  joined_from : (done : Selection) (ts : List Need) (t : Need) → AreJoined c R done ts → Contains ts t
      → (d : Node × Fields) × Contains done d × IsAimedAt d t.node
  joined_from [] ts t joined at = absurd (none_in t (subst (λ zs. Contains zs t) joined at))
  joined_from (d ∷ ds) ts t joined at =
      by_cases (Contains-append_cases joined.own joined.rest t (subst (λ zs. Contains zs t) joined.joined at))
      (joined_from ds joined.rest t joined.of_rest)
    where
      by_cases : Contains joined.own t ⊎ Contains joined.rest t
          → (Contains joined.rest t → (x : Node × Fields) × Contains ds x × IsAimedAt x t.node)
          → (x : Node × Fields) × Contains (d ∷ ds) x × IsAimedAt x t.node
      by_cases (inl own) on =
          let found = contains_from_flat needs_of joined.of_own.firm t (subst (λ zs. Contains zs t) joined.of_own.are own) in
          let target = contains_from_map (λ (n : Node). record { node = n; specifiers = found.0.specifiers }) (targets found.0) t found.2 in (
            d,
            contains_first d ds,
            record {
              requirement = found.0;
              firm = kept_from (IsFirm (requirements c d.0.name d.1) R d.0) (requirements c d.0.name d.1) joined.of_own.firm found.0
                  joined.of_own.kept found.1;
              aimed = subst (Contains (targets found.0)) (sym (ap (λ (x : Need). x.node) target.2)) target.1;
            },
          )
      by_cases (inr later) on = let found = on later in (found.0, contains_later d ds found.0 found.1, found.2)

  next_from : (done : Selection) (ts : List Need) (n : Node) → AreJoined c R done ts → next starts done ts ≡ Some n
      → Contains starts n ⊎ ((d : Node × Fields) × Contains done d × IsAimedAt d n)
  next_from done ts n joined e =
      by_cases (Contains-append_cases starts (map (λ (t : Need). t.node) ts) n
      (found_in (λ x. not (is_some (choice_of done x))) (starts ++ map (λ (t : Need). t.node) ts) n e))
    where
      by_cases : Contains starts n ⊎ Contains (map (λ (t : Need). t.node) ts) n
          → Contains starts n ⊎ ((d : Node × Fields) × Contains done d × IsAimedAt d n)
      by_cases (inl start) = inl start
      by_cases (inr need) =
          let found = contains_from_map (λ (t : Need). t.node) ts n need in
          let from = joined_from done ts found.0 joined found.1 in
          inr (from.0, from.1, subst (IsAimedAt from.0) (sym found.2) from.2)

  -- the next node isn't decided
  next_open : (done : Selection) (ts : List Need) (n : Node) → next starts done ts ≡ Some n → choice_of done n ≡ None
  next_open done ts n e = none_of (choice_of done n)
      (found_passes (λ x. not (is_some (choice_of done x))) (starts ++ map (λ (t : Need). t.node) ts) n e)

  chosen_more : (done : Selection) (d : Node × Fields) → AreChosen done → choice_of done d.0 ≡ None → AreChosen (done ++ d ∷ [])
  chosen_more done d are undecided x at = by_cases (Contains-append_cases done (d ∷ []) x at)
    where
      by_cases : Contains done x ⊎ Contains (d ∷ []) x → choice_of (done ++ d ∷ []) x.0 ≡ Some x.1
      by_cases (inl before) = kept_on done (d ∷ []) x.0 x.1 (are x before)
      by_cases (inr last) =
          let same : x ≡ d = only_one d x last in
          subst (λ (y : Node × Fields). choice_of (done ++ d ∷ []) y.0 ≡ Some y.1) (sym same) (decided_now done d undecided)

  -- each decision that follows is of such a node
  needed_from : (done ds : Selection) → AreChosen done → IsBestFrom c starts wish R done ds → (d : Node × Fields) → Contains ds d
      → Contains starts d.0 ⊎ IsNeededBy (done ++ ds) d.0
  needed_from done [] are best d at = absurd (none_in d at)
  needed_from done (x ∷ ds) are best d at =
      let undecided = next_open done best.needs x.0 best.node in
      by_cases (contains_cases x ds d at) (needed_from (done ++ x ∷ []) ds (chosen_more done x are undecided) best.more d)
    where
      first : Contains starts x.0 ⊎ ((y : Node × Fields) × Contains done y × IsAimedAt y x.0) → Contains starts x.0 ⊎ IsNeededBy (done ++ x ∷ ds) x.0
      first (inl start) = inl start
      first (inr from) = inr (record { from = from.0; chosen = kept_on done (x ∷ ds) from.0.0 from.0.1 (are from.0 from.1); by = from.2 })

      by_cases : (d ≡ x) ⊎ Contains ds d → (Contains ds d → Contains starts d.0 ⊎ IsNeededBy ((done ++ x ∷ []) ++ ds) d.0)
          → Contains starts d.0 ⊎ IsNeededBy (done ++ x ∷ ds) d.0
      by_cases (inl same) on =
          subst (λ (y : Node × Fields). Contains starts y.0 ⊎ IsNeededBy (done ++ x ∷ ds) y.0) (sym same)
          (first (next_from done best.needs x.0 best.of_needs best.node))
      by_cases (inr later) on =
          subst (λ (s : Selection). Contains starts d.0 ⊎ IsNeededBy s d.0) (append_assoc done (x ∷ []) ds) (on later)

  none_chosen : AreChosen []
  none_chosen d at = absurd (none_in d at)

  -- and so is each decision of the best selection
  pub needed : (ds : Selection) → IsBestFrom c starts wish R [] ds → (d : Node × Fields) → Contains ds d
      → Contains starts d.0 ⊎ IsNeededBy ds d.0
  needed ds best = needed_from [] ds none_chosen best

  chosen_from : (done ds : Selection) → AreChosen done → IsBestFrom c starts wish R done ds → AreChosen (done ++ ds)
  chosen_from done [] are best = subst AreChosen (sym (append-nil done)) are
  chosen_from done (x ∷ ds) are best =
      let undecided = next_open done best.needs x.0 best.node in
      subst AreChosen (append_assoc done (x ∷ []) ds)
      (chosen_from (done ++ x ∷ []) ds (chosen_more done x are undecided) best.more)

  -- each decision is what the selection has for its node
  pub best_chosen : (ds : Selection) → IsBestFrom c starts wish R [] ds → AreChosen ds
  best_chosen ds best = chosen_from [] ds none_chosen best
