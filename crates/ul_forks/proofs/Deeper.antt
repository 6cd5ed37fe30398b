-- Where the core of a region that nothing serves splits it.
use Rattle.std.specs.Prelude.{All, Contains, slice_get}
use Rattle.std.proofs.Common.{◌≡◌, ◌<◌, ◌≤◌, ◌+◌, ◌∙◌, ℕ, List, [], ◌∷◌, length, get_or, take, zero, suc, Bool, true, false, not, arith, Option, Some, None, refl, sym, ap, subst, inl, inr}
use Rattle.std.proofs.lemmas.Option.{none-some, same_Some, slice_get_within, get_or_from_slice_get}
use Rattle.std.proofs.lemmas.List.{take_all}
use Rattle.std.proofs.lemmas.List.Elements.{All-contains, All-cons, All-head, All-more, All-nil, All-tail}
use Rattle.std.specs.Borrow.{Bor}
use Rattle.ul_base.specs.declared.node.Node.{Node}
use Rattle.ul_base.specs.Kept.{IsFirst}
use Rattle.ul_base.proofs.ForCallers.{contains_first, contains_later}
use Rattle.ul_version.specs.Fields.{Fields}
use Rattle.ul_requirement.specs.Fields.{RequirementFields}
use Rattle.ul_requirement.specs.Truth.{applies_at}
use Rattle.ul_requirement.specs.declared.wish.Strategy.TheVariants.{Deep}
use Rattle.ul_problem.specs.Plain.{Plain as Problem, node_at, needs_in}
use Rattle.ul_problem.specs.Problems.{IsWellFormed}
use Rattle.ul_problem.specs.declared.problem.Need.{Need}
use Rattle.ul_problem.specs.declared.problem.NodeFacts.{NodeFacts}
use Rattle.ul_problem.proofs.ForCallers.{node_whole}
use Rattle.ul_index.specs.Applied.{IsFirm}
use Rattle.ul_index.specs.Catalogs.{Packages, release_of, requirements}
use Rattle.ul_index.specs.Regions.{Region, Throughout}
use Rattle.ul_blame.specs.Core.{IsCore}
use Rattle.ul_blame.specs.Laws.{CoreIsAmong}
use Rattle.ul_blame.proofs.ForCallers.{is_need}
use Rattle.ul_blame.specs.declared.needs.CoreNeed.{CoreNeed}
use Rattle.ul_algebra.specs.Spelled.{tree_of}
use Rattle.ul_region.specs.Asked.{IsAtNode}
use Rattle.ul_region.specs.Problem.{IsProblemOf}
use Rattle.ul_region.specs.Rows.{IsRow}
use Rattle.ul_region.specs.Truths.{DiagramMark, PassView, IsTruth, region_at}
use Rattle.ul_region.specs.declared.at_node.AtNode.{AtNode}
use Rattle.ul_region.specs.declared.in_region.InRegion.{InRegion}
use Rattle.ul_split.specs.declared.split.Chosen.{Chosen}
use Rattle.ul_split.proofs.ForCallers.{requirements_found}
use Rattle.ul_prepared.specs.declared.prepared.Prepared.{Prepared}
use Rattle.ul_placing.specs.declared.placing.Placed.{Placed}
use Rattle.ul_split.specs.CoreAnswers.{CoreGives, FailsAt}
use Rattle.ul_split.specs.CoreSplit.{IsAskedBy, IsFailing}
use Rattle.ul_split.specs.Origins.{ComesFrom}
use Rattle.ul_forks.specs.Deeper.{HasVersion, IsPlaced, NeedGives, SplitsDeeper}
use Rattle.ul_forks.specs.Judge.{IsReady, question_with}
use Rattle.ul_forks.specs.Outcome.{HasCore}
use Rattle.ul_forks.specs.Picks.{IsPicked, IsTaken}
use Rattle.ul_forks.proofs.Picking.{taken_picked}

-- ---- a need, and the row of its version

module _ (h : PassView) (c : Packages) (truths : List DiagramMark) (R : Region) (p : Problem) (k : CoreNeed) (d : Chosen) (is : IsPicked h c truths p (k.node, k.version) d) where
  -- the row has the requirements of the version's release
  same_requirements : requirements c d.node.now.name is.version ≡ d.row.now.release.now.requirements
  same_requirements = requirements_found c d.node.now.name is.version d.row.now.release.now
      (subst (λ (n : Node). release_of c n.name is.version ≡ Some d.row.now.release.now) (sym is.node) is.found)

  -- what the need comes from in the row is what it comes from in the catalog
  pub asked_by : (q : RequirementFields) → ComesFrom (IsFirm d.row.now.release.now.requirements R d.node.now) d.row.now.release.now.requirements k.place q → IsAskedBy c R p k d.node.now q
  asked_by q from = record {
    facts = is.facts;
    at = is.at;
    node = sym is.node;
    version = is.version;
    stands = is.stands;
    from = subst (λ (qs : List RequirementFields). ComesFrom (IsFirm qs R d.node.now) qs k.place q) (sym same_requirements) from;
  }

  module _ (n : Node) (q : RequirementFields) (a : IsAskedBy c R p k n q) where
    same_facts : a.facts ≡ is.facts
    same_facts = same_Some a.facts is.facts (sym a.at ∙ is.at)

    pub same_node : n ≡ d.node.now
    same_node = sym a.node ∙ (ap (λ (f : NodeFacts). f.node) same_facts ∙ sym is.node)

    same_version : a.version ≡ is.version
    same_version = same_Some a.version is.version (sym a.stands ∙ (ap (λ (f : NodeFacts). slice_get f.versions k.version) same_facts ∙ is.stands))

    pub in_row : ComesFrom (IsFirm d.row.now.release.now.requirements R d.node.now) d.row.now.release.now.requirements k.place q
    in_row = subst (λ (qs : List RequirementFields). ComesFrom (IsFirm qs R d.node.now) qs k.place q) same_requirements
        (subst (λ (v : Fields). ComesFrom (IsFirm (requirements c d.node.now.name v) R d.node.now) (requirements c d.node.now.name v) k.place q) same_version
        (subst (λ (m : Node). ComesFrom (IsFirm (requirements c m.name a.version) R m) (requirements c m.name a.version) k.place q) same_node a.from))

-- what is asked at a chosen node
abbrev pub at_of : Bor InRegion → Chosen → AtNode
at_of place d = record { place = place; node = d.node; row = d.row }

module _ (h : PassView) (shared : Prepared) (place : Bor InRegion) (placed : Placed) (k : CoreNeed) (d : Chosen) (is : IsPlaced h shared place.now placed) (taken : IsTaken shared placed.problem (k.node, k.version) d) where
  picked : IsPicked h shared.catalog.now shared.truths.marks.items placed.problem (k.node, k.version) d
  picked = taken_picked h shared (region_at place.now.region.now) placed.problem (k.node, k.version) d is.prepared is.problem taken

  pub asked_here : IsAtNode h (at_of place d)
  asked_here = record { place = is.place; row = subst (λ (ts : List DiagramMark). IsRow h d.node.now ts d.row.now) (sym is.truths) picked.row }

  -- what the need comes from holds throughout
  pub need_none : (o : Option (Bor DiagramMark)) → o ≡ None → FailsAt h (at_of place d) k.place o → NeedGives h shared.catalog.now (region_at place.now.region.now) placed.problem k None
  need_none o e f n q a =
      subst (λ (m : Node). Throughout (region_at place.now.region.now) (applies_at q m)) (sym (same_node h shared.catalog.now shared.truths.marks.items (region_at place.now.region.now) placed.problem k d picked n q a))
      (subst (FailsAt h (at_of place d) k.place) e f q (in_row h shared.catalog.now shared.truths.marks.items (region_at place.now.region.now) placed.problem k d picked n q a))

  -- what it comes from fails somewhere
  pub need_some : (o : Option (Bor DiagramMark)) (t : Bor DiagramMark) (m : DiagramMark) → o ≡ Some t → m ≡ t.now → FailsAt h (at_of place d) k.place o → NeedGives h shared.catalog.now (region_at place.now.region.now) placed.problem k (Some m)
  need_some o t m e same f =
      let found = subst (FailsAt h (at_of place d) k.place) e f in (
        record {
          node = d.node.now;
          requirement = found.0;
          asked = asked_by h shared.catalog.now shared.truths.marks.items (region_at place.now.region.now) placed.problem k d picked found.0 found.1;
          fails = found.2;
        },
        subst (λ (x : DiagramMark). IsTruth h x (applies_at found.0 d.node.now)) (sym same) found.3,
      )

-- ---- the needs of a core, in order

not_both : (b : Bool) → b ≡ true → not b ≡ true → ⊥
not_both true e f = cc
not_both false e f = cc

module _ (h : PassView) (c : Packages) (R : Region) (p : Problem) where
  -- the need doesn't fail
  abbrev pub IsHeld : CoreNeed → Type 0
  IsHeld k = NeedGives h c R p k None

  not_failing : (k : CoreNeed) → IsHeld k → IsFailing c R p k → ⊥
  not_failing k held f = not_both (applies_at f.requirement f.node f.fails.0) (held f.node f.requirement f.asked f.fails.0 f.fails.1 f.fails.2) f.fails.3

  held_more : (ks : List CoreNeed) (i : ℕ) (k : CoreNeed) (o : Option DiagramMark) → i < length ks → k ≡ get_or ks i k → o ≡ None → NeedGives h c R p k o → All IsHeld (take i ks) → All IsHeld (take (i + 1) ks)
  held_more ks i k o l e none g a = All-more IsHeld ks i k l a (subst IsHeld e (subst (NeedGives h c R p k) none g))

  first_here : (ks : List CoreNeed) (i : ℕ) (k : CoreNeed) → i < length ks → k ≡ get_or ks i k → All IsHeld (take i ks) → IsFailing c R p k → IsFirst (IsFailing c R p) ks k
  first_here [] i k l e a f = absurd (omega (arith, l))
  first_here (x ∷ xs) zero k l e a f = inl (record { holds = subst (IsFailing c R p) e f; is = e })
  first_here (x ∷ xs) (suc i) k l e a f = inr (record { fails = not_failing x (All-head IsHeld x (take i xs) a); more = first_here xs i k (omega (arith, l)) e (All-tail IsHeld x (take i xs) a) f })

  gives_first : (ks : List CoreNeed) (i : ℕ) (k : CoreNeed) (o : Option DiagramMark) (t : DiagramMark) → i < length ks → k ≡ get_or ks i k → o ≡ Some t → NeedGives h c R p k o → All IsHeld (take i ks) → CoreGives h c R p ks (Some t)
  gives_first ks i k o t l e some g a =
      let found = subst (NeedGives h c R p k) some g in (
        applies_at found.0.requirement found.0.node,
        record { need = k; first = first_here ks i k l e a found.0; node = found.0.node; requirement = found.0.requirement; asked = found.0.asked; is = refl },
        found.1,
      )

  -- the same by the place of the need
  pub held_more_at : (ks : List CoreNeed) (i : ℕ) (k : CoreNeed) (o : Option DiagramMark) → slice_get ks i ≡ Some k → o ≡ None → NeedGives h c R p k o → All IsHeld (take i ks) → All IsHeld (take (i + 1) ks)
  held_more_at ks i k o at = held_more ks i k o (slice_get_within ks i k at) (sym (get_or_from_slice_get ks i k k at))

  pub gives_first_at : (ks : List CoreNeed) (i : ℕ) (k : CoreNeed) (o : Option DiagramMark) (t : DiagramMark) → slice_get ks i ≡ Some k → o ≡ Some t → NeedGives h c R p k o → All IsHeld (take i ks) → CoreGives h c R p ks (Some t)
  gives_first_at ks i k o t at = gives_first ks i k o t (slice_get_within ks i k at) (sym (get_or_from_slice_get ks i k k at))

  pub gives_none : (ks : List CoreNeed) (i : ℕ) → length ks ≤ i → All IsHeld (take i ks) → CoreGives h c R p ks None
  gives_none ks i l a k n q at asked = All-contains IsHeld ks k (subst (All IsHeld) (take_all i ks l) a) at n q asked

-- ---- the core

need_within : (p : Problem) (k : CoreNeed) (o : Option NodeFacts) (need : Need) → IsWellFormed p → node_at p k.node ≡ o → slice_get (needs_in o k.version) k.place ≡ Some need → HasVersion p k
need_within p k None need w at e = absurd (none-some need e)
need_within p k (Some f) need w at e = record {
  facts = f;
  at = at;
  within = subst (λ (n : ℕ). k.version < n) (node_whole p k.node f w at).rows (row_within f.needs k.version k.place need e);
}
  where
    row_within : (rows : List (List Need)) (v j : ℕ) (need : Need) → slice_get (get_or rows v []) j ≡ Some need → v < length rows
    row_within [] v j need e = absurd (none-some need e)
    row_within (r ∷ rs) zero j need e = omega arith
    row_within (r ∷ rs) (suc v) j need e = let l = row_within rs v j need e in omega (arith, l)

-- each of a core is of a version
pub core_versions : CoreIsAmong → (p : Problem) (core : List CoreNeed) → IsWellFormed p → IsCore p core → All (HasVersion p) core
core_versions among p core w is = all_by core (λ k i. let need = is_need p k (among p core k is i) in need_within p k (node_at p k.node) need.0 w refl need.1)
  where
    all_by : (ks : List CoreNeed) → ((k : CoreNeed) → Contains ks k → HasVersion p k) → All (HasVersion p) ks
    all_by [] f = All-nil (HasVersion p)
    all_by (k ∷ ks) f = All-cons (HasVersion p) k ks (f k (contains_first k ks)) (all_by ks (λ x i. f x (contains_later k ks x i)))

module _ (h : PassView) (shared : Prepared) (extras : List (List ℕ)) (s : InRegion) (placed : Placed) (ready : IsReady h shared extras) (is : IsPlaced h shared s placed) where
  has_core : (core : List CoreNeed) → IsCore placed.problem core → HasCore (question_with shared extras) (tree_of s.region.now) placed.problem core
  has_core core k = record {
    problem = subst (λ (starts : List Node). IsProblemOf shared.catalog.now starts shared.wish.now (region_at s.region.now) placed.problem) ready.starts is.problem;
    core = k;
  }

  -- the core's truth, where the strategy is `deep`
  pub splits_deeper : (core : List CoreNeed) (o : Option DiagramMark) → shared.wish.now.strategy ≡ Deep → IsCore placed.problem core → CoreGives h shared.catalog.now (region_at s.region.now) placed.problem core o → SplitsDeeper h (question_with shared extras) s.region.now o
  splits_deeper core None deep k g = λ e. record { problem = placed.problem; core = core; has = has_core core k; throughout = g }
  splits_deeper core (Some t) deep k g = (g.0, record { deep = deep; problem = placed.problem; core = core; has = has_core core k; splits = g.1 }, g.2)
