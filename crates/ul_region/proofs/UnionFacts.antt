-- Unions of regions.
use Rattle.std.proofs.Common.{◌≡◌, ℕ, ◌||◌, List, [], ◌∷◌, ◌++◌, length, get_or, drop, All, Bool, true, false, Result, Ok, Err, refl, sym, ap, ap₂, subst, ◌∙◌, arith}
use Rattle.std.specs.Prelude.{IfOk}
use Rattle.std.specs.declared.alloc.AllocError.{AllocError}
use Rattle.std.proofs.lemmas.List.Elements.{All-drop, All-weaker}
use Rattle.ul_interner.specs.Known.{Knows}
use Rattle.ul_comparison.specs.Worlds.{WorldFields, IsWorld}
use Rattle.ul_nodes.specs.Apply.{either}
use Rattle.ul_tree.proofs.ForCallers.{region_truth}
use Rattle.ul_algebra.specs.Answers.{IsDiagram}
use Rattle.ul_algebra.specs.Spelled.{tree_of}
use Rattle.ul_algebra.specs.Truths.{HoldsJoined}
use Rattle.ul_region.specs.Truths.{PassView, DiagramMark, IsRegion, IsTruth, region_at}
use Rattle.ul_region.specs.Unions.{some_holds}
use Rattle.ul_region.proofs.TruthFacts.{truth_still}

-- what two clauses of a call tell of its answer
pub if_both : {A : Type 0} (r : Result A AllocError) (P Q R : A → Type 0) → ((x : A) → P x → Q x → R x) → IfOk r P → IfOk r Q → IfOk r R
if_both (Ok x) P Q R f p q = f x p q
if_both (Err e) P Q R f p q = tt

either_is : (a b : Bool) → either a b ≡ (a || b)
either_is true b = refl
either_is false b = refl

-- the union of two
pub union_truth : (g h : PassView) (d a b : DiagramMark) → IsRegion g a → IsRegion g b → IsDiagram h d → HoldsJoined either a b d → IsTruth h d (λ w. region_at a w || region_at b w)
union_truth g h d a b r s k j = record {
  diagram = k;
  truth = record { reduced = k.reduced; truth = λ w x is. j w x ∙ (ap₂ either (r.truth.truth w x is) (s.truth.truth w x is) ∙ either_is (region_at a w) (region_at b w)) };
}

-- a truth in other words
pub other_words : (h : PassView) (d : DiagramMark) (p q : WorldFields → Bool) → ((w : WorldFields) → IsWorld w → p w ≡ q w) → IsTruth h d p → IsTruth h d q
other_words h d p q same t = record { diagram = t.diagram; truth = record { reduced = t.truth.reduced; truth = λ w x is. t.truth.truth w x is ∙ same w is } }

-- of none
pub none_union : (h : PassView) (d : DiagramMark) (ms : List DiagramMark) → length ms ≡ 0 → IsTruth h d (λ w. false) → IsTruth h d (some_holds ms)
none_union h d [] e t = t
none_union h d (m ∷ ms) e t = absurd (omega (arith, e))

or_false : (a : Bool) → a ≡ (a || false)
or_false true = refl
or_false false = refl

-- of one
pub one_union : (h : PassView) (d r : DiagramMark) (ms : List DiagramMark) → length ms ≡ 1 → All (IsRegion h) ms → d ≡ r → r ≡ get_or ms 0 r → IsTruth h d (some_holds ms)
one_union h d r [] e a s i = absurd (omega (arith, e))
one_union h d r (m ∷ []) e a s i = subst (λ (x : DiagramMark). IsTruth h x (some_holds (m ∷ []))) (sym (s ∙ i))
    (other_words h m (region_at m) (some_holds (m ∷ [])) (λ w is. or_false (region_at m w)) (a 0 m (omega arith)))
one_union h d r (m ∷ k ∷ ms) e a s i = absurd (omega (arith, e))

or_assoc : (a b c : Bool) → (a || (b || c)) ≡ ((a || b) || c)
or_assoc true b c = refl
or_assoc false b c = refl

pub some_append : (ms ns : List DiagramMark) (w : WorldFields) → some_holds (ms ++ ns) w ≡ (some_holds ms w || some_holds ns w)
some_append [] ns w = refl
some_append (m ∷ ms) ns w = ap (λ b. region_at m w || b) (some_append ms ns w) ∙ or_assoc (region_at m w) (some_holds ms w) (some_holds ns w)

-- of two halves
pub both_union : (f g h : PassView) (d a b : DiagramMark) (ms front back : List DiagramMark) → ms ≡ front ++ back → IsTruth f a (some_holds front) → IsTruth g b (some_holds back)
    → IsTruth h d (λ w. region_at a w || region_at b w) → IsTruth h d (some_holds ms)
both_union f g h d a b ms front back e s t u = other_words h d (λ w. region_at a w || region_at b w) (some_holds ms)
    (λ w is. ap₂ ◌||◌ (region_truth (tree_of a) (some_holds front) s.truth w is) (region_truth (tree_of b) (some_holds back) t.truth w is)
    ∙ (sym (some_append front back w) ∙ ap (λ (ns : List DiagramMark). some_holds ns w) (sym e))) u

pub still_region : (g h : PassView) → Knows g h → (m : DiagramMark) → IsRegion g m → IsRegion h m
still_region g h more m r = truth_still g h m (region_at m) more r

-- the regions behind a place are such where more is known
pub back_still : (g h : PassView) (ms back : List DiagramMark) (n : ℕ) → Knows g h → back ≡ drop n ms → All (IsRegion g) ms → All (IsRegion h) back
back_still g h ms back n more e a = subst (λ (xs : List DiagramMark). All (IsRegion h) xs) (sym e) (All-drop (IsRegion h) n ms (All-weaker (IsRegion g) (IsRegion h) (still_region g h more) ms a))
