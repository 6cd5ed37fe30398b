-- A region has at most one outcome.
use Rattle.std.proofs.Common.{◌≡◌, ◌∙◌, List, [], ◌∷◌, Bool, not, ◌&&◌, inl, inr, refl, sym, ap, ap₂, subst}
use Rattle.std.proofs.lemmas.Option.{same_Some}
use Rattle.ul_comparison.specs.Worlds.{WorldFields}
use Rattle.ul_tree.specs.Laws.{OneTruthOneTree}
use Rattle.ul_nodes.specs.Plain.{Plain}
use Rattle.ul_tree.specs.Regions.{HasTruth, region_of}
use Rattle.ul_problem.specs.Plain.{Plain as Problem}
use Rattle.ul_index.specs.Catalogs.{Packages}
use Rattle.ul_index.specs.Serves.{Selection}
use Rattle.ul_blame.specs.Core.{IsCore}
use Rattle.ul_blame.specs.Laws.{CoreIsOne}
use Rattle.ul_blame.specs.declared.needs.CoreNeed.{CoreNeed}
use Rattle.ul_region.specs.Laws.{BestOnce, BestServes, NothingServes}
use Rattle.ul_placing.specs.Laws.{EqualProblems}
use Rattle.ul_split.specs.CoreSplit.{CoreSplit}
use Rattle.ul_split.specs.CoreLaws.{CoreSplitOnce}
use Rattle.ul_generations.specs.declared.outcomes.Outcome.{Outcome}
use Rattle.ul_generations.specs.declared.outcomes.Outcome.TheVariants.{Done, Split, Refused}
use Rattle.ul_split.specs.Laws.{SplitOnce}
use Rattle.ul_split.specs.Split.{Decided, AreDecided, SplitsBy}
use Rattle.ul_forks.specs.Outcome.{Question, starts_of, IsDecided, IsRefused, IsDone, HasCore, IsSplitByBest, IsSplitByCore, IsSplitBy, IsSplit, IsUnsplitByCore, StaysRefused, IsOutcome}

decided_once : (c : Packages) (s : Selection) (ds es : List Decided) → AreDecided c s ds → AreDecided c s es → ds ≡ es
decided_once c [] [] [] h k = refl
decided_once c [] (d ∷ ds) es h k = absurd h
decided_once c [] [] (e ∷ es) h k = absurd k
decided_once c (p ∷ ps) [] es h k = absurd h
decided_once c (p ∷ ps) (d ∷ ds) [] h k = absurd k
decided_once c (p ∷ ps) (d ∷ ds) (e ∷ es) h k = ap₂ ◌∷◌ one (decided_once c ps ds es h.rest k.rest)
  where
    node : d.node ≡ e.node
    node = h.same ∙ sym k.same

    release : d.release ≡ e.release
    release = same_Some d.release e.release (sym h.found ∙ k.found)

    one : d ≡ e
    one = λ i. record { node = node i; release = release i }

-- the laws on which one outcome rests
pub record OnceLaws : Type 0 where
  pub one_tree : OneTruthOneTree
  pub best_once : BestOnce
  pub best_serves : BestServes
  pub split_once : SplitOnce
  pub nothing : NothingServes
  pub equal : EqualProblems
  pub core_is_one : CoreIsOne
  pub core_once : CoreSplitOnce

module _ (laws : OnceLaws) where
  tree_once : (s t : Plain) (p r : WorldFields → Bool) → p ≡ r → HasTruth s p → HasTruth t r → s ≡ t
  tree_once s t p r e h k = laws.one_tree s t h.reduced k.reduced (λ w x is texts extra. h.truth w x is ∙ (ap (λ (f : WorldFields → Bool). f w) e ∙ sym (k.truth w x is)))

  -- ---- regions that something serves

  same_decided : (q : Question) (t : Plain) (b b' : Selection) (ds es : List Decided) → IsDecided q t b ds → IsDecided q t b' es → ds ≡ es
  same_decided q t b b' ds es h k = let same : b ≡ b' = laws.best_once q.catalog (starts_of q) q.wish (region_of t) b b' h.is_best k.is_best in
      decided_once q.catalog b' ds es (subst (λ (z : Selection). AreDecided q.catalog z ds) same h.are_decided) k.are_decided

  not_refused : (q : Question) (t : Plain) (b : Selection) (ds : List Decided) → IsDecided q t b ds → IsRefused q t → ⊥
  not_refused q t b ds h k = k b (laws.best_serves (q.name, q.extras) q.catalog q.wish (region_of t) b h.is_best)

  served_once : (q : Question) (t : Plain) (f g : WorldFields → Bool) → IsSplitByBest q t f → IsSplitByBest q t g → f ≡ g
  served_once q t f g h k = laws.split_once.once (region_of t) k.decided f g
      (subst (λ (z : List Decided). SplitsBy (region_of t) z f) (same_decided q t h.best k.best h.decided k.decided h.are k.are) h.splits) k.splits

  served_unsplit : (q : Question) (t : Plain) (f : WorldFields → Bool) (b : Selection) → IsSplitByBest q t f → IsDone q t b → ⊥
  served_unsplit q t f b h k = laws.split_once.not_both (region_of t) k.decided f
      (subst (λ (z : List Decided). SplitsBy (region_of t) z f) (same_decided q t h.best b h.decided k.decided h.are k.are) h.splits) k.unsplit

  -- ---- regions that nothing serves

  refused_by_core : (q : Question) (t : Plain) (p : Problem) (core : List CoreNeed) → HasCore q t p core → IsRefused q t
  refused_by_core q t p core h = (laws.nothing q.catalog (starts_of q) q.wish (region_of t) p h.problem).0 h.core.0

  same_problem : (q : Question) (t : Plain) (p r : Problem) (core other : List CoreNeed) → HasCore q t p core → HasCore q t r other → p ≡ r
  same_problem q t p r core other h k = laws.equal q.catalog (starts_of q) q.wish (region_of t) (region_of t) p r (λ w is. refl) h.problem k.problem

  same_core : (q : Question) (t : Plain) (p r : Problem) (core other : List CoreNeed) → HasCore q t p core → HasCore q t r other → core ≡ other
  same_core q t p r core other h k =
      laws.core_is_one r core other (subst (λ (z : Problem). IsCore z core) (same_problem q t p r core other h k) h.core) k.core

  -- what splits by the one splits by the other
  moved : (q : Question) (t : Plain) (p r : Problem) (core other : List CoreNeed) (f : WorldFields → Bool) → HasCore q t p core → HasCore q t r other
      → CoreSplit q.catalog (region_of t) p core f → CoreSplit q.catalog (region_of t) r other f
  moved q t p r core other f h k s = subst (λ (z : List CoreNeed). CoreSplit q.catalog (region_of t) r z f) (same_core q t p r core other h k)
      (subst (λ (z : Problem). CoreSplit q.catalog (region_of t) z core f) (same_problem q t p r core other h k) s)

  refused_once : (q : Question) (t : Plain) (f g : WorldFields → Bool) → IsSplitByCore q t f → IsSplitByCore q t g → f ≡ g
  refused_once q t f g h k = laws.core_once.once q.catalog (region_of t) k.problem k.core f g (moved q t h.problem k.problem h.core k.core f h.has k.has h.splits) k.splits

  refused_whole : (q : Question) (t : Plain) (f : WorldFields → Bool) → IsSplitByCore q t f → IsUnsplitByCore q t → ⊥
  refused_whole q t f h whole = let k = whole h.deep in
      laws.core_once.not_both q.catalog (region_of t) k.problem k.core f (moved q t h.problem k.problem h.core k.core f h.has k.has h.splits) k.throughout

  -- ---- both

  truth_once : (q : Question) (t : Plain) (f g : WorldFields → Bool) → IsSplitBy q t f → IsSplitBy q t g → f ≡ g
  truth_once q t f g (inl h) (inl k) = served_once q t f g h k
  truth_once q t f g (inl h) (inr k) = absurd (not_refused q t h.best h.decided h.are (refused_by_core q t k.problem k.core k.has))
  truth_once q t f g (inr h) (inl k) = absurd (not_refused q t k.best k.decided k.are (refused_by_core q t h.problem h.core h.has))
  truth_once q t f g (inr h) (inr k) = refused_once q t f g h k

  not_unsplit : (q : Question) (t : Plain) (f : WorldFields → Bool) (b : Selection) → IsSplitBy q t f → IsDone q t b → ⊥
  not_unsplit q t f b (inl h) k = served_unsplit q t f b h k
  not_unsplit q t f b (inr h) k = not_refused q t b k.decided k.are (refused_by_core q t h.problem h.core h.has)

  not_split : (q : Question) (t : Plain) (f : WorldFields → Bool) → IsSplitBy q t f → StaysRefused q t → ⊥
  not_split q t f (inl h) k = not_refused q t h.best h.decided h.are k.refused
  not_split q t f (inr h) k = refused_whole q t f h k.unsplit

  split_trees : (q : Question) (t x y x' y' : Plain) → IsSplit q t x y → IsSplit q t x' y' → (x ≡ x') × (y ≡ y')
  split_trees q t x y x' y' h k = let same : h.truth ≡ k.truth = truth_once q t h.truth k.truth h.splits k.splits in (
    tree_once x x' (λ w. region_of t w && h.truth w) (λ w. region_of t w && k.truth w) (λ i w. region_of t w && same i w) h.true_in k.true_in,
    tree_once y y' (λ w. region_of t w && not (h.truth w)) (λ w. region_of t w && not (k.truth w)) (λ i w. region_of t w && not (same i w)) h.false_in k.false_in,
  )

  pub outcome_once : (q : Question) (t : Plain) (x y : Outcome Plain Selection (Unit {0})) → IsOutcome q t x → IsOutcome q t y → x ≡ y
  outcome_once q t (Done b) (Done b') h k = ap Done (laws.best_once q.catalog (starts_of q) q.wish (region_of t) b b' h.are.is_best k.are.is_best)
  outcome_once q t (Done b) (Split x y) h k = absurd (not_unsplit q t k.truth b k.splits h)
  outcome_once q t (Done b) (Refused u) h k = absurd (not_refused q t b h.decided h.are k.refused)
  outcome_once q t (Split x y) (Done b) h k = absurd (not_unsplit q t h.truth b h.splits k)
  outcome_once q t (Split x y) (Split x' y') h k = let same = split_trees q t x y x' y' h k in ap₂ Split same.0 same.1
  outcome_once q t (Split x y) (Refused u) h k = absurd (not_split q t h.truth h.splits k)
  outcome_once q t (Refused u) (Done b) h k = absurd (not_refused q t b k.decided k.are h.refused)
  outcome_once q t (Refused u) (Split x y) h k = absurd (not_split q t k.truth k.splits h)
  outcome_once q t (Refused u) (Refused v) h k = refl
