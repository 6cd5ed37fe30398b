-- Truths of requirements as diagrams.
use Rattle.std.specs.Prelude.{All, slice_get}
use Rattle.std.proofs.Common.{◌≡◌, ◌⊎◌, ℕ, zero, suc, List, [], ◌∷◌, ◌++◌, length, Bool, true, not, ◌&&◌, Option, Some, None, refl, sym, ap, subst, ◌∙◌, inl, inr, ⊎_elim}
use Rattle.std.proofs.lemmas.Option.{none-some, same_Some}
use Rattle.std.proofs.lemmas.List.Elements.{All-push, All-weaker}
use Rattle.ul_base.specs.declared.node.Node.{Node}
use Rattle.ul_interner.specs.Known.{Knows}
use Rattle.ul_interner.proofs.ForCallers.{known_stays}
use Rattle.ul_comparison.specs.Truth.{python_release}
use Rattle.ul_comparison.specs.Worlds.{WorldFields, IsWorld}
use Rattle.ul_specifier.specs.Clauses.{ClauseFields}
use Rattle.ul_specifier.specs.Meaning.{meets_list, lower_list}
use Rattle.ul_tree.specs.Laws.{and_of, not_of, at_extra_of}
use Rattle.ul_nodes.specs.Plain.{Plain}
use Rattle.ul_nodes.specs.Reduced.{IsReduced}
use Rattle.ul_tree.specs.Regions.{HasTruth}
use Rattle.ul_tree.specs.Values.{tree_holds}
use Rattle.ul_tree.specs.Views.{tree_view}
use Rattle.ul_tree.specs.declared.tree.Tree.{Tree}
use Rattle.ul_tree.proofs.ForCallers.{operations, region_tree}
use Rattle.ul_algebra.specs.Answers.{IsDiagram}
use Rattle.ul_algebra.specs.Spelled.{tree_of}
use Rattle.ul_requirement.specs.Fields.{RequirementFields, ReleaseFields}
use Rattle.ul_requirement.specs.Truth.{applies_at, may_hold, true_with}
use Rattle.ul_index.specs.Catalogs.{is_release_fit}
use Rattle.ul_version.specs.Fields.{plain}
use Rattle.ul_region.specs.Truths.{PassView, DiagramMark, HoldsAs, IsRegion, IsTruth}
use Rattle.ul_region.proofs.Existing.{alone_truth}

-- ---- where more is known

pub still : (g h : PassView) (m : DiagramMark) → Knows g h → IsDiagram g m → IsDiagram h m
still g h m more d = record { known = known_stays g h more m d.known; reduced = d.reduced }

pub truth_still : (g h : PassView) (m : DiagramMark) (p : WorldFields → Bool) → Knows g h → IsTruth g m p → IsTruth h m p
truth_still g h m p more t = record { diagram = still g h m more t.diagram; truth = t.truth }

pub all_still : (g h : PassView) (ms : List DiagramMark) → Knows g h → All (IsDiagram g) ms → All (IsDiagram h) ms
all_still g h ms more a = All-weaker (IsDiagram g) (IsDiagram h) (λ m d. still g h m more d) ms a

-- a diagram of a truth stands for a region
pub is_region : (h : PassView) (m : DiagramMark) (p : WorldFields → Bool) → IsTruth h m p → IsRegion h m
is_region h m p t = record { diagram = t.diagram; truth = region_tree (tree_of m) p t.truth }

-- ---- requirements

pub base_truth : (h : PassView) (d whole : DiagramMark) (q : RequirementFields) (n : Node) → IsDiagram h d → ((w : WorldFields) (y : List ℕ) → tree_holds (tree_of d) w y ≡ tree_holds (tree_of whole) w [])
    → HoldsAs whole (may_hold q.marker) → n.extra ≡ None → IsTruth h d (applies_at q n)
base_truth h d whole q n k e m s = record {
  diagram = k;
  truth = record { reduced = k.reduced; truth = λ w x is. e w x ∙ (m w [] is ∙ ap (λ (o : Option (List ℕ)). true_with q o w) (sym s)) };
}

extra_part : (t : Plain) (p : WorldFields → List ℕ → Bool) (x : List ℕ) → IsReduced t → ((w : WorldFields) (y : List ℕ) → IsWorld w → tree_holds t w y ≡ p w y) → HasTruth (at_extra_of t x) (λ w. p w x)
extra_part t p x r h = record { reduced = operations.extra_reduced t x r; truth = λ w y is. operations.extra_truth t x r w y ∙ h w x is }

pub extra_truth : (h : PassView) (d whole : DiagramMark) (q : RequirementFields) (n : Node) (own x : List ℕ) → IsDiagram h d → IsReduced (tree_of whole) → tree_of d ≡ and_of (at_extra_of (tree_of whole) own) (not_of (at_extra_of (tree_of whole) []))
    → HoldsAs whole (may_hold q.marker) → own ≡ x → n.extra ≡ Some x → IsTruth h d (applies_at q n)
extra_truth h d whole q n own x k r e m o s = record {
  diagram = k;
  truth = record { reduced = k.reduced; truth = λ w y is. ap (λ (u : Plain). tree_holds u w y) e ∙ (alone.truth w y is ∙ (ap (λ (z : List ℕ). may_hold q.marker w z && not (may_hold q.marker w [])) o ∙ ap (λ (z : Option (List ℕ)). true_with q z w) (sym s))) };
}
  where
    alone : HasTruth (and_of (at_extra_of (tree_of whole) own) (not_of (at_extra_of (tree_of whole) []))) (λ w. may_hold q.marker w own && not (may_hold q.marker w []))
    alone = alone_truth (at_extra_of (tree_of whole) own) (at_extra_of (tree_of whole) []) (λ w. may_hold q.marker w own) (λ w. may_hold q.marker w [])
        (extra_part (tree_of whole) (may_hold q.marker) own r m) (extra_part (tree_of whole) (may_hold q.marker) [] r m)

-- ---- releases

pub fit_at : (h : PassView) (d : DiagramMark) (r : ReleaseFields) (t : Tree) (s : List ClauseFields) → IsDiagram h d → tree_of d ≡ tree_view t → s ≡ lower_list r.python
    → ((w : WorldFields) (x : List ℕ) → IsWorld w → tree_holds (tree_view t) w x ≡ meets_list s (plain (python_release true w))) → IsTruth h d (is_release_fit r)
fit_at h d r t s k e o p = record {
  diagram = k;
  truth = record { reduced = k.reduced; truth = λ w x is. ap (λ (u : Plain). tree_holds u w x) e ∙ (p w x is ∙ ap (λ (c : List ClauseFields). meets_list c (plain (python_release true w))) o) };
}

-- ---- truths in a region

push_cases : {A : Type 0} (ms : List A) (d m : A) (j : ℕ) → slice_get (ms ++ d ∷ []) j ≡ Some m → (slice_get ms j ≡ Some m) ⊎ ((j ≡ length ms) × (m ≡ d))
push_cases [] d m zero e = inr (refl, sym (same_Some d m e))
push_cases [] d m (suc j) e = absurd (none-some m e)
push_cases (x ∷ xs) d m zero e = inl e
push_cases (x ∷ xs) d m (suc j) e = ⊎_elim inl (λ h. inr (ap suc h.0, h.1)) (push_cases xs d m j e)

abbrev pub MeetsEach : DiagramMark → List DiagramMark → List DiagramMark → Type 0
MeetsEach r ts ms = (k : ℕ) (t m : DiagramMark) → slice_get ts k ≡ Some t → slice_get ms k ≡ Some m → tree_of m ≡ and_of (tree_of r) (tree_of t)

pub meets_more : (r : DiagramMark) (ts ms ns : List DiagramMark) (i : ℕ) (t d : DiagramMark) → ns ≡ ms ++ d ∷ [] → length ms ≡ i → slice_get ts i ≡ Some t → tree_of d ≡ and_of (tree_of r) (tree_of t) → MeetsEach r ts ms → MeetsEach r ts ns
meets_more r ts ms ns i t d grown size at e h k u m a b = ⊎_elim (λ x. h k u m a x)
    (λ x. ap tree_of x.1 ∙ (e ∙ ap (λ (z : DiagramMark). and_of (tree_of r) (tree_of z)) (same_Some t u (sym at ∙ (ap (slice_get ts) (sym (x.0 ∙ size)) ∙ a)))))
    (push_cases ms d m k (subst (λ (zs : List DiagramMark). slice_get zs k ≡ Some m) grown b))

pub known_more : (g h : PassView) (ms ns : List DiagramMark) (d : DiagramMark) → Knows g h → ns ≡ ms ++ d ∷ [] → All (IsDiagram g) ms → IsDiagram h d → All (IsDiagram h) ns
known_more g h ms ns d more grown a k = subst (All (IsDiagram h)) (sym grown) (All-push (IsDiagram h) ms d (all_still g h ms more a) k)
