-- What `check` accepts of a resolution, whatever an old lock keeps, it accepts where nothing is kept: the two problems of a
-- region differ in their orders of preference alone.
use Rattle.std.proofs.Common.{◌≡◌, ◌∙◌, ◌<◌, ◌+◌, ℕ, zero, suc, List, [], ◌∷◌, ◌++◌, Bool, true, false, cond, filter, get_or, length, map, not, reverse, slice_get, Contains, Some, Ok, option_map, refl, sym, ap, subst, arith, inl, inr}
use mathlib.Core.List.{reverse_aux}
use Rattle.std.specs.List.{range_with_len}
use Rattle.std.proofs.lemmas.List.{length-reverse}
use Rattle.std.proofs.lemmas.List.Elements.{All-from_get_or}
use Rattle.std.proofs.lemmas.List.FromFn.{get_or-range_with_len, length-range_with_len}
use Rattle.std.proofs.lemmas.List.Sorted.{All-permutation, Contains-permutation, IsPermutation-reverse}
use Rattle.std.proofs.lemmas.Option.{none-some, same_Some, slice_get-map}
use Rattle.ul_base.specs.Reached.{Reached}
use Rattle.ul_base.specs.declared.node.Node.{Node}
use Rattle.ul_version.specs.Fields.{Fields}
use Rattle.ul_tree.specs.Regions.{region_of}
use Rattle.ul_problem.specs.Plain.{Plain, node_at}
use Rattle.ul_problem.specs.Problems.{IsOrderOf}
use Rattle.ul_problem.specs.declared.problem.Need.{Need}
use Rattle.ul_problem.specs.declared.problem.NodeFacts.{NodeFacts}
use Rattle.ul_index.specs.Catalogs.{Packages}
use Rattle.ul_index.specs.Eligible.{eligible}
use Rattle.ul_index.specs.Preference.{is_direct, is_kept, is_oldest_first, preference}
use Rattle.ul_index.specs.Regions.{Region}
use Rattle.ul_region.specs.Best.{Need as NodeNeed}
use Rattle.ul_region.specs.Problem.{AreAt, AreNeedsAt, AreVersionsAt, IsAt, IsFactsOf, IsNeedAt, IsProblemOf, Leads}
use Rattle.ul_forks.specs.Outcome.{starts_of}
use Rattle.ul_project.specs.Fields.{ProjectFields}
use Rattle.ul_report_read.specs.declared.proof.Proof.{Proof}
use Rattle.ul_inputs.specs.Locks.{Kept}
use Rattle.ul_inputs.specs.Resolutions.{resolution_of, wish_of}
use Rattle.ul_answers.specs.Answer.{accepted}
use Rattle.ul_commands.specs.Checking.{IsCheckAnswer}
use Rattle.ul_commands.specs.Questions.{question_of}
use Rattle.laws_commands.proofs.AlikeProblems.{names_both}
use Rattle.laws_commands.proofs.Reordered.{alike_reordered, ordered, reordered, well_reordered}

-- ---- the order in which versions are tried where nothing is kept

-- the places of versions, from the oldest or from the newest on
abbrev places : Bool → ℕ → List ℕ
places oldest size = cond oldest (range_with_len 0 size) (reverse (range_with_len 0 size))

-- each of the places is one of a version
rising_below : (size i : ℕ) → i < length (range_with_len 0 size) → get_or (range_with_len 0 size) i 0 < size
rising_below size i h =
    let long = length-range_with_len 0 size in
    let less : i < size = omega (arith, h, long) in
    omega (arith, less, get_or-range_with_len 0 size i 0 less)

-- from the oldest on each version stands once
rising_whole : (size : ℕ) → IsOrderOf size (range_with_len 0 size)
rising_whole size = (
  length-range_with_len 0 size,
  All-from_get_or (λ v. v < size) (range_with_len 0 size) 0 (rising_below size),
  λ v h. (v, omega (arith, h, length-range_with_len 0 size), omega (arith, get_or-range_with_len 0 size v v h)),
)

-- from either end on each version stands once
whole : (oldest : Bool) (size : ℕ) → IsOrderOf size (places oldest size)
whole true size = rising_whole size
whole false size =
    let is = rising_whole size in
    let ks = range_with_len 0 size in
    let turned = IsPermutation-reverse ks in (
      length-reverse ks ∙ is.0,
      All-permutation (λ v. v < size) ks (reverse ks) turned is.1,
      λ v h. Contains-permutation ks (reverse ks) v turned (is.2 v h),
    )

module _ (vs : List Fields) where
  -- the last of the versions, from a place on, stand at the places from there on
  rising_at : (xs : List Fields) (a : ℕ)
      → ((j : ℕ) (x : Fields) → slice_get xs j ≡ Some x → slice_get vs (a + j) ≡ Some x)
      → AreVersionsAt vs (range_with_len a (length xs)) xs
  rising_at [] a h = tt
  rising_at (x ∷ xs) a h = (
    let here : a + 0 ≡ a = omega arith in subst (λ n. slice_get vs n ≡ Some x) here (h 0 x refl),
    rising_at xs (a + 1) (λ j y e.
        let next : a + suc j ≡ a + 1 + j = omega arith in subst (λ n. slice_get vs n ≡ Some y) next (h (suc j) y e)),
  )

  -- places the other way round are those of the versions the other way round
  turned_at : (ks ls : List ℕ) (xs ys : List Fields) → AreVersionsAt vs ks xs → AreVersionsAt vs ls ys
      → AreVersionsAt vs (reverse_aux ks ls) (reverse_aux xs ys)
  turned_at [] ls [] ys h more = more
  turned_at [] ls (x ∷ xs) ys h more = absurd h
  turned_at (k ∷ ks) ls [] ys h more = absurd h
  turned_at (k ∷ ks) ls (x ∷ xs) ys h more = turned_at ks (k ∷ ls) xs (x ∷ ys) h.1 (h.0, more)

  -- all versions stand at the places from the first on
  all_rising : AreVersionsAt vs (range_with_len 0 (length vs)) vs
  all_rising = rising_at vs 0 (λ j x e.
      let same : j ≡ 0 + j = omega arith in subst (λ n. slice_get vs n ≡ Some x) same e)

  -- the versions from the oldest or from the newest on stand at these places
  placed : (oldest : Bool) → AreVersionsAt vs (places oldest (length vs)) (cond oldest vs (reverse vs))
  placed true = all_rising
  placed false = turned_at (range_with_len 0 (length vs)) [] vs [] all_rising tt

module _ (s : ProjectFields) (c : Packages) where
  -- where nothing is kept, no version comes first
  none_kept : (n : List ℕ) (vs : List Fields) → filter (is_kept (wish_of s []) n) vs ≡ []
  none_kept n [] = refl
  none_kept n (v ∷ vs) = none_kept n vs

  -- and each is one of the others
  all_others : (n : List ℕ) (vs : List Fields) → filter (λ v. not (is_kept (wish_of s []) n v)) vs ≡ vs
  all_others n [] = refl
  all_others n (v ∷ vs) = ap (λ rest. v ∷ rest) (all_others n vs)

  -- in this project the versions of a package are tried from the oldest on, and else from the newest on
  abbrev oldest_first : List ℕ → Bool
  oldest_first n = is_oldest_first s.mode (is_direct c n)

  -- so the versions of a package are tried from one end on
  tried : (n : List ℕ) → preference c (wish_of s []) n ≡ cond (oldest_first n) (eligible c n) (reverse (eligible c n))
  unfolding preference
  tried n = λ i. none_kept n (reverse (eligible c n)) i
      ++ all_others n (cond (oldest_first n) (eligible c n) (reverse (eligible c n))) i

  -- the order of a node's versions where nothing is kept
  abbrev order_for : NodeFacts → List ℕ
  order_for f = places (oldest_first f.node.name) (length f.versions)

  -- the versions stand at these places in their order of preference
  order_placed : (f : NodeFacts) → f.versions ≡ eligible c f.node.name
      → AreVersionsAt f.versions (order_for f) (preference c (wish_of s []) f.node.name)
  order_placed f are =
      subst (AreVersionsAt f.versions (order_for f))
      (ap (λ vs. cond (oldest_first f.node.name) vs (reverse vs)) are ∙ sym (tried f.node.name))
      (placed f.versions (oldest_first f.node.name))

  -- ---- the problem of a region

  -- the problem in the orders of a project without an old lock
  abbrev unkept : Plain → Plain
  unkept p = reordered order_for p

  -- what is known of a node stands at its place, in the other order
  there : (p : Plain) (k : ℕ) (f : NodeFacts) → node_at p k ≡ Some f → node_at (unkept p) k ≡ Some (ordered order_for f)
  there p k f at = slice_get-map (ordered order_for) p.nodes k ∙ ap (option_map (ordered order_for)) at

  -- and what stands at a place is such
  back : (fs : List NodeFacts) (k : ℕ) (g : NodeFacts) → slice_get (map (ordered order_for) fs) k ≡ Some g
      → (f : NodeFacts) × (slice_get fs k ≡ Some f) × (ordered order_for f ≡ g)
  back [] k g at = absurd (none-some g at)
  back (f ∷ fs) zero g at = (f, refl, same_Some (ordered order_for f) g at)
  back (f ∷ fs) (suc k) g at = back fs k g at

  -- nodes stand at the places where they stood
  nodes_at : (p : Plain) (ks : List ℕ) (ns : List Node) → AreAt p ks ns → AreAt (unkept p) ks ns
  nodes_at p [] [] h = tt
  nodes_at p [] (n ∷ ns) h = absurd h
  nodes_at p (k ∷ ks) [] h = absurd h
  nodes_at p (k ∷ ks) (n ∷ ns) h =
      let at : IsAt p k n = h.0 in ((ordered order_for at.0, there p k at.0 at.1, at.2), nodes_at p ks ns h.1)

  -- needs by places are what they were
  needs_at : (p : Plain) (ks : List Need) (ts : List NodeNeed) → AreNeedsAt p ks ts → AreNeedsAt (unkept p) ks ts
  needs_at p [] [] h = tt
  needs_at p [] (t ∷ ts) h = absurd h
  needs_at p (k ∷ ks) [] h = absurd h
  needs_at p (k ∷ ks) (t ∷ ts) h =
      let is : IsNeedAt p k t = h.0 in (
        record {
          facts = ordered order_for is.facts;
          at = there p k.node is.facts is.at;
          node = is.node;
          permitted = is.permitted;
        },
        needs_at p ks ts h.1,
      )

  -- what is known of a node is right, with its order where nothing is kept
  facts_at : (kept : List Kept) (R : Region) (p : Plain) (f : NodeFacts) → IsFactsOf c (wish_of s kept) R p f
      → IsFactsOf c (wish_of s []) R (unkept p) (ordered order_for f)
  facts_at kept R p f h = record {
    versions = h.versions;
    order = order_placed f h.versions;
    barred = h.barred;
    needs = λ v x at.
        let has = h.needs v x at in
        record { needs = has.needs; are = has.are; at = needs_at p (get_or f.needs v []) has.needs has.at };
  }

  -- the problem of a region with kept versions is, in these orders, its problem without
  problem_unkept : (starts : List Node) (kept : List Kept) (R : Region) (p : Plain)
      → IsProblemOf c starts (wish_of s kept) R p → IsProblemOf c starts (wish_of s []) R (unkept p)
  problem_unkept starts kept R p is = record {
    well_formed = well_reordered order_for p (λ f. whole (oldest_first f.node.name) (length f.versions)) is.well_formed;
    roots = nodes_at p p.roots starts is.roots;
    facts = λ k g at.
        let had = back p.nodes k g at in
        subst (IsFactsOf c (wish_of s []) R (unkept p)) had.2 (facts_at kept R p had.0 (is.facts k had.0 had.1));
    reached = λ k g at.
        let had = back p.nodes k g at in
        subst (λ (f : NodeFacts). Reached (Contains starts) (Leads c R) f.node) had.2 (is.reached k had.0 had.1);
  }

  -- ---- what `check` accepts

  -- what it accepts with kept versions it accepts without
  pub accepted_unkept : (kept : List Kept) (x : Proof) → IsCheckAnswer (resolution_of s kept c) x (Ok accepted)
      → IsCheckAnswer (resolution_of s [] c) x (Ok accepted)
  accepted_unkept kept x (inl h) = inl (record {
    problem = unkept h.problem;
    of_region =
        let starts = starts_of (question_of (resolution_of s kept c)) in
        problem_unkept starts kept (region_of x.region) h.problem h.of_region;
    accepts = names_both h.problem (unkept h.problem) (alike_reordered order_for h.problem) x.steps h.accepts;
    is = refl;
  })
  accepted_unkept kept x (inr h) = let bad = h.is in absurd (cc)
