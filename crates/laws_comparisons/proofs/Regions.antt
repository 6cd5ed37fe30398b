-- The regions of a fork answer look at what the catalog's requirements ask.
use Rattle.std.proofs.Common.{◌≡◌, ◌∙◌, ◌&&◌, inl, inr, ℕ, List, [], ◌∷◌, Bool, Option, Some, ap, sym, subst, ⊎_elim}
use Rattle.std.specs.Prelude.{Contains, not}
use Rattle.std.specs.List.{AllByRecursion}
use Rattle.ul_base.proofs.ForCallers.{contains_cases, first_holds, first_in, none_in}
use Rattle.ul_version.specs.Fields.{Fields}
use Rattle.ul_comparison.specs.Atoms.{AtomFields}
use Rattle.ul_comparison.specs.Worlds.{WorldFields}
use Rattle.ul_requirement.specs.Fields.{ReleaseFields, RequirementFields}
use Rattle.ul_requirement.specs.Truth.{atoms_of_requirement}
use Rattle.ul_nodes.specs.Plain.{Plain}
use Rattle.ul_tree.specs.Regions.{region_of}
use Rattle.ul_index.specs.Applied.{IsFirm}
use Rattle.ul_index.specs.Catalogs.{Packages, release_of, requirements, requirements_in}
use Rattle.ul_index.specs.Regions.{Region}
use Rattle.ul_index.specs.Serves.{Selection}
use Rattle.ul_region.specs.Groups.{FailsIn}
use Rattle.ul_split.specs.CoreSplit.{CoreSplit}
use Rattle.ul_split.specs.Origins.{ComesFrom}
use Rattle.ul_split.specs.Split.{AreDecided, Decided, HasSplit, SplitsBy}
use Rattle.ul_problem.specs.Plain.{Plain as Problem}
use Rattle.ul_blame.specs.declared.needs.CoreNeed.{CoreNeed}
use Rattle.ul_generations.specs.Generations.{leaves_are}
use Rattle.ul_generations.proofs.ForCallers.{each_leaf}
use Rattle.ul_forks.specs.Headline.{IsAnswer, TreeLeaf}
use Rattle.ul_forks.specs.Outcome.{IsOutcome, IsSplit, IsSplitBy, Question}
use Rattle.laws_comparisons.specs.Comparisons.{LooksAt, with_truths}
use Rattle.laws_comparisons.proofs.Asked.{AreAsked}
use Rattle.laws_comparisons.proofs.Catalogs.{CatalogAsks}
use Rattle.laws_comparisons.proofs.Looking.{LooksThere, of_truth}
use Rattle.laws_comparisons.proofs.Truths.{fit_looks, requirement_looks}

module _ (asked : List AtomFields) where
  within : (p q : WorldFields → Bool) → LooksAt asked p → LooksAt asked q → LooksAt asked (λ w. p w && q w)
  within p q h k w ts world other alike =
      ap (λ b. b && q w) (h w ts world other alike) ∙ ap (λ b. p (with_truths w ts) && b) (k w ts world other alike)

  beside : (p : WorldFields → Bool) → LooksAt asked p → LooksAt asked (λ w. not (p w))
  beside p h w ts world other alike = ap not (h w ts world other alike)

  -- ---- by which truths a region is split

  -- the release of a decision is the catalog's
  release_is : (c : Packages) (best : Selection) (ds : List Decided) (d : Decided) → AreDecided c best ds → Contains ds d
      → (name : List ℕ) × (v : Fields) × (release_of c name v ≡ Some d.release)
  release_is c [] [] d are m = absurd (none_in d m)
  release_is c [] (e ∷ ds) d are m = absurd are
  release_is c (p ∷ ps) [] d are m = absurd are
  release_is c (p ∷ ps) (e ∷ ds) d are m =
      ⊎_elim (λ q. (p.0.name, p.1, subst (λ (x : Decided). release_of c p.0.name p.1 ≡ Some x.release) (sym q) are.found))
      (λ later. release_is c ps ds d are.rest later) (contains_cases e ds d m)

  release_asks : (c : Packages) → CatalogAsks asked c → (name : List ℕ) (v : Fields) (r : ReleaseFields) (q : RequirementFields)
      → release_of c name v ≡ Some r → Contains r.requirements q → AreAsked asked (atoms_of_requirement q)
  unfolding requirements
  release_asks c listed name v r q e m = listed name v q (subst (λ (o : Option ReleaseFields). Contains (requirements_in o) q) (sym e) m)

  by_selection : (c : Packages) → CatalogAsks asked c → (R : Region) (best : Selection) (ds : List Decided) (truth : WorldFields → Bool)
      → AreDecided c best ds → SplitsBy R ds truth → LooksAt asked truth
  by_selection c listed R best ds truth are (inl h) = subst (LooksAt asked) (sym h.is) (fit_looks asked h.decided.release)
  by_selection c listed R best ds truth are (inr h) =
      let d = h.decided in
      let r = release_is c best ds d are (first_in (HasSplit R) ds d h.first) in
      let fails = first_holds (FailsIn d.release.requirements R d.node h.parting.opener.name) d.release.requirements h.requirement h.parting.first_failing in
      subst (LooksAt asked) (sym h.is)
      (requirement_looks asked h.requirement d.node (release_asks c listed r.0 r.1 d.release h.requirement r.2 fails.applied.listed))

  -- the requirement that a need comes from counts
  it_counts : (Counts : RequirementFields → Type 0) (qs : List RequirementFields) (place : ℕ) (q : RequirementFields)
      → ComesFrom Counts qs place q → Counts q
  it_counts Counts [] place q h = absurd h
  it_counts Counts (r ∷ rs) place q (inl h) = subst Counts (sym h.is) h.counts
  it_counts Counts (r ∷ rs) place q (inr (inl h)) = it_counts Counts rs h.behind q h.later
  it_counts Counts (r ∷ rs) place q (inr (inr h)) = it_counts Counts rs place q h.later

  by_core : (c : Packages) → CatalogAsks asked c → (R : Region) (p : Problem) (core : List CoreNeed) (truth : WorldFields → Bool)
      → CoreSplit c R p core truth → LooksAt asked truth
  by_core c listed R p core truth h =
      let n = h.node in
      let of_version = h.asked in
      let qs = requirements c n.name of_version.version in
      let firm = it_counts (IsFirm qs R n) qs h.need.place h.requirement of_version.from in
      subst (LooksAt asked) (sym h.is)
      (requirement_looks asked h.requirement n (listed n.name of_version.version h.requirement firm.applied.listed))

  split_looks : (q : Question) → CatalogAsks asked q.catalog → (t : Plain) (truth : WorldFields → Bool) → IsSplitBy q t truth → LooksAt asked truth
  split_looks q listed t truth (inl h) = by_selection q.catalog listed (region_of t) h.best h.decided truth h.are.are_decided h.splits
  split_looks q listed t truth (inr h) = by_core q.catalog listed (region_of t) h.problem h.core truth h.splits

  -- ---- the regions of a fork answer

  both_parts : (q : Question) → CatalogAsks asked q.catalog → (t first second : Plain) → IsSplit q t first second
      → LooksThere asked t → LooksThere asked first × LooksThere asked second
  both_parts q listed t first second h there =
      let truth = split_looks q listed t h.truth h.splits in (
        of_truth asked first (λ w. region_of t w && h.truth w) h.true_in (within (region_of t) h.truth (there.looks []) truth),
        of_truth asked second (λ w. region_of t w && not (h.truth w)) h.false_in
            (within (region_of t) (λ w. not (h.truth w)) (there.looks []) (beside h.truth truth)),
      )

  -- each leaf's region does, where the whole region does
  pub leaves_look : (q : Question) → CatalogAsks asked q.catalog → (region : Plain) (counts : List ℕ) (ls : List TreeLeaf)
      → LooksThere asked region → IsAnswer q region counts (leaves_are ls)
      → AllByRecursion (λ (l : TreeLeaf). LooksThere asked l.region) ls
  leaves_look q listed region counts ls there h =
      each_leaf (IsOutcome q) (LooksThere asked) (λ t a b. both_parts q listed t a b) region counts ls there h
