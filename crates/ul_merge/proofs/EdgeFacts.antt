-- Edges of groups.
use Rattle.std.proofs.Common.{◌≡◌, ℕ, zero, suc, ◌+◌, ◌<◌, ◌≤◌, List, [], ◌∷◌, ◌++◌, length, get_or, map, take, Bool, true, false, ◌&&◌, Option, Some, None, refl, sym, ap, ap₂, ◌∙◌, subst, arith}
use Rattle.std.specs.Prelude.{All}
use Rattle.std.specs.List.{slice_get}
use Rattle.std.specs.Option.{MatchOption}
use Rattle.std.proofs.lemmas.List.{append-nil, map_more}
use Rattle.std.proofs.lemmas.List.Elements.{All-cons, All-contains, All-nil, All-weaker}
use Rattle.ul_base.specs.declared.node.Node.{Node}
use Rattle.ul_version.specs.Fields.{Fields}
use Rattle.ul_interner.specs.Known.{Knows}
use Rattle.ul_comparison.specs.Worlds.{WorldFields, IsWorld}
use Rattle.ul_requirement.specs.Fields.{RequirementFields}
use Rattle.ul_requirement.specs.Truth.{applies_at}
use Rattle.ul_nodes.specs.Plain.{Plain}
use Rattle.ul_lock.specs.declared.parts.Edge.{Edge}
use Rattle.ul_region.specs.Truths.{PassView, DiagramMark, IsRegion, IsTruth, region_at, truth_within}
use Rattle.ul_region.proofs.ForCallers.{is_region, truth_still}
use Rattle.ul_merge.specs.Edges.{AreTruths, IsEdgeBy, LiesWithin, both_hold, picked}
use Rattle.ul_merge.specs.Made.{at_most_one}
use Rattle.ul_region.specs.Unions.{some_holds}
use Rattle.ul_merge.specs.declared.targets.Use.{Use}
use Rattle.ul_merge.proofs.LeafFacts.{HoldsThere, holds_from, place_in}

-- regions where more is known
pub regions_still : (g h : PassView) (ms : List DiagramMark) → Knows g h → All (IsRegion g) ms → All (IsRegion h) ms
regions_still g h ms k all = All-weaker (IsRegion g) (IsRegion h) (λ m t. truth_still g h m (region_at m) k t) ms all

picked_one : (P : DiagramMark → Type 0) (ms : List DiagramMark) (k : ℕ) (o : Option DiagramMark) (rest : List DiagramMark) → slice_get ms k ≡ o → All P ms → All P rest → All P (at_most_one o ++ rest)
picked_one P ms k None rest e all more = more
picked_one P ms k (Some m) rest e all more = All-cons P m rest (All-contains P ms m all (place_in ms k m e)) more

-- the diagrams at a place, and at the others
pub picked_first : (ms : List DiagramMark) (k : ℕ) (ks : List ℕ) → picked ms (k ∷ ks) ≡ picked ms (k ∷ []) ++ picked ms ks
picked_first ms k ks = ap (λ xs. xs ++ picked ms ks) (sym (append-nil (at_most_one (slice_get ms k))))

-- what holds of each holds of each at some places
pub all_picked : (P : DiagramMark → Type 0) (ms : List DiagramMark) (ks : List ℕ) → All P ms → All P (picked ms ks)
all_picked P ms [] all = All-nil P
all_picked P ms (k ∷ ks) all = picked_one P ms k (slice_get ms k) (picked ms ks) refl all (all_picked P ms ks all)

-- both unions
pub both_truth : (f g h : PassView) (r t d : DiagramMark) (rs ts : List DiagramMark) → IsTruth f r (some_holds rs) → IsTruth g t (some_holds ts)
    → IsTruth h d (truth_within (region_at r) (region_at t)) → IsTruth h d (both_hold rs ts)
both_truth f g h r t d rs ts a b j = record {
  diagram = j.diagram;
  truth = record { reduced = j.truth.reduced; truth = λ w x is. j.truth.truth w x is ∙ ap₂ ◌&&◌ (a.truth.truth w [] is) (b.truth.truth w [] is) };
}

and_left : (a b : Bool) → (a && b) ≡ true → a ≡ true
and_left true b e = refl
and_left false b e = cc

-- an edge is true in the supported region where its leaves' regions lie in it
pub both_within : (h : PassView) (d supported : DiagramMark) (ms ts : List DiagramMark) (ks : List ℕ) → All (λ m. LiesWithin m supported) ms → IsTruth h d (both_hold (picked ms ks) ts) → LiesWithin d supported
both_within h d supported ms ts ks all t w is e =
    let f : HoldsThere ms ks w = holds_from ms ks w (and_left (some_holds (picked ms ks) w) (some_holds ts w) (sym (t.truth.truth w [] is) ∙ e)) in
    All-contains (λ m. LiesWithin m supported) ms f.mark all (place_in ms f.place f.mark f.at) w is f.holds

-- an edge by another truth that agrees at each world
pub edge_agrees : (n : Node) (v : Fields) (a b : WorldFields → Bool) (supported : Plain) (o : Option Edge) → ((w : WorldFields) → IsWorld w → a w ≡ b w) → IsEdgeBy n v a supported o → IsEdgeBy n v b supported o
edge_agrees n v a b supported None same h = λ w is. sym (same w is) ∙ h w is
edge_agrees n v a b supported (Some e) same h = record {
  target = h.target;
  version = h.version;
  somewhere = (h.somewhere.0, h.somewhere.1, sym (same h.somewhere.0 h.somewhere.1) ∙ h.somewhere.2);
  marker = record {
    tree = h.marker.tree;
    reduced = h.marker.reduced;
    truth = λ w x is. ((λ r. sym (same w is) ∙ (h.marker.truth w x is).0 r), (λ r. (h.marker.truth w x is).1 (same w is ∙ r)));
    simplifies = h.marker.simplifies;
  };
}

-- ---- truths of requirements, one by one

truths_still : (g h : PassView) (n : Node) (rs : List RequirementFields) (ts : List DiagramMark) → Knows g h → AreTruths g n rs ts → AreTruths h n rs ts
truths_still g h n [] ts k a = a
truths_still g h n (r ∷ rs) [] k a = a
truths_still g h n (r ∷ rs) (t ∷ ts) k a = (truth_still g h t (applies_at r n) k a.0, truths_still g h n rs ts k a.1)

truths_last : (h : PassView) (n : Node) (rs : List RequirementFields) (ts : List DiagramMark) (r : RequirementFields) (t : DiagramMark) → AreTruths h n rs ts → IsTruth h t (applies_at r n)
    → AreTruths h n (rs ++ r ∷ []) (ts ++ t ∷ [])
truths_last h n [] ts r t a b = subst (λ (xs : List DiagramMark). AreTruths h n (r ∷ []) (xs ++ t ∷ [])) (sym a) (b, refl)
truths_last h n (q ∷ rs) [] r t a b = absurd a
truths_last h n (q ∷ rs) (s ∷ ts) r t a b = (a.0, truths_last h n rs ts r t a.1 b)

-- one requirement more
pub truths_more : {A : Type 0} (f : A → RequirementFields) (g h : PassView) (n : Node) (rs : List A) (i : ℕ) (r : A) (ts now : List DiagramMark) (t : DiagramMark) → Knows g h → i < length rs → r ≡ get_or rs i r
    → AreTruths g n (map f (take i rs)) ts → IsTruth h t (applies_at (f r) n) → now ≡ ts ++ t ∷ [] → AreTruths h n (map f (take (i + 1) rs)) now
truths_more {A = A} f g h n rs i r ts now t k lt at a b is =
    subst (λ (qs : List RequirementFields). AreTruths h n qs now) (sym (map_more f rs i r lt ∙ ap (λ (q : A). map f (take i rs) ++ f q ∷ []) (sym at)))
    (subst (AreTruths h n (map f (take i rs) ++ f r ∷ [])) (sym is) (truths_last h n (map f (take i rs)) ts (f r) t (truths_still g h n (map f (take i rs)) ts k a) b))

-- they are regions
pub truths_regions : (h : PassView) (n : Node) (rs : List RequirementFields) (ts : List DiagramMark) → AreTruths h n rs ts → All (IsRegion h) ts
truths_regions h n [] ts a = subst (All (IsRegion h)) (sym a) (All-nil (IsRegion h))
truths_regions h n (r ∷ rs) [] a = absurd a
truths_regions h n (r ∷ rs) (t ∷ ts) a = All-cons (IsRegion h) t ts (is_region h t (applies_at r n) a.0) (truths_regions h n rs ts a.1)

-- a diagram that isn't there adds none
pub put_none : (xs ms : List DiagramMark) (k : ℕ) → slice_get ms k ≡ None → xs ≡ xs ++ picked ms (k ∷ [])
put_none xs ms k e = nothing xs ∙ ap (λ (o : Option DiagramMark). xs ++ (at_most_one o ++ [])) (sym e)
  where
    nothing : (ys : List DiagramMark) → ys ≡ ys ++ []
    nothing [] = refl
    nothing (y ∷ ys) = ap (λ (zs : List DiagramMark). y ∷ zs) (nothing ys)

-- what is said where nothing was found
pub none_place : {A : Type 0} (P : Type 0) (Q : A → Type 0) (o : Option A) → ((a : A) → o ≡ Some a → ⊥) → MatchOption o P Q → P
none_place P Q None n m = m
none_place P Q (Some a) n m = absurd (n a refl)

-- nothing stands past the end
pub none_past : {A : Type 0} (xs : List A) (k : ℕ) → length xs ≤ k → slice_get xs k ≡ None
none_past [] k h = refl
none_past (x ∷ xs) zero h = absurd (omega (arith, h))
none_past (x ∷ xs) (suc k) h = none_past xs k (omega (arith, h))

-- the diagrams at the places of uses, read through slices
pub places_of : (f : Use → ℕ) (all made slice : List DiagramMark) (uses values : List Use) → uses ≡ values → made ≡ picked all (map f uses) → slice ≡ made → slice ≡ picked all (map f values)
places_of f all made slice uses values e is s = s ∙ (is ∙ ap (λ (us : List Use). picked all (map f us)) e)

-- a truth of regions and truths is one at each world
pub made_truth : (h : PassView) (d : DiagramMark) (rs ts ms ns : List DiagramMark) → rs ≡ ms → ts ≡ ns → IsTruth h d (both_hold rs ts) → (w : WorldFields) → IsWorld w → region_at d w ≡ both_hold ms ns w
made_truth h d rs ts ms ns e f t w is = t.truth.truth w [] is ∙ ap₂ (λ (xs ys : List DiagramMark). both_hold xs ys w) e f
