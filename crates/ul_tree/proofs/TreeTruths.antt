-- What is said of trees that have a truth of worlds, and that a tree which doesn't depend on the extra asks for none.
use Rattle.std.proofs.Common.{◌≡◌, ℕ, zero, suc, List, [], ◌∷◌, Bool, true, false, not, ◌&&◌, refl, sym, ap, ap₂, subst, ◌∙◌, Less, Equal}
use Rattle.ul_comparison.specs.Worlds.{WorldFields, IsWorld}
use Rattle.ul_nodes.specs.Apply.{both}
use Rattle.ul_tree.specs.Laws.{at_extra_of}
use Rattle.ul_nodes.specs.Levels.{IsExtra, extra_level}
use Rattle.ul_nodes.specs.Plain.{Plain, truth, node}
use Rattle.ul_nodes.specs.Reduced.{IsReduced, Fits}
use Rattle.ul_tree.specs.Regions.{HasTruth, IsRegionTree, region_of, NoExtra}
use Rattle.ul_tree.specs.Sample.{asks_extra}
use Rattle.ul_tree.specs.Values.{tree_holds, value_of}
use Rattle.ul_tree.proofs.Extras.{one_truth_one_tree}
use Rattle.ul_tree.proofs.JoinedTrees.{operations, part_fits, below_extra}
use Rattle.ul_nodes.proofs.ForCallers.{cmp_itself}
use Rattle.ul_tree.proofs.Picks.{holds_alike}
use Rattle.ul_tree.proofs.Walks.{no_extra_fits}

-- ---- trees of a truth

pub both_and : (a b : Bool) → both a b ≡ (a && b)
both_and true b = refl
both_and false b = refl

-- a tree of some truth is a region's
pub region_tree : (t : Plain) (p : WorldFields → Bool) → HasTruth t p → IsRegionTree t
region_tree t p h = record { reduced = h.reduced; truth = λ w x is. h.truth w x is ∙ sym (h.truth w [] is) }

pub has_and : (a b t : Plain) (p q : WorldFields → Bool) → HasTruth a p → HasTruth b q → IsReduced t
    → ((w : WorldFields) (x : List ℕ) → tree_holds t w x ≡ both (tree_holds a w x) (tree_holds b w x)) → HasTruth t (λ w. p w && q w)
has_and a b t p q g h r e = record { reduced = r; truth = λ w x is. e w x ∙ (ap₂ both (g.truth w x is) (h.truth w x is) ∙ both_and (p w) (q w)) }

pub has_not : (a t : Plain) (p : WorldFields → Bool) → HasTruth a p → IsReduced t
    → ((w : WorldFields) (x : List ℕ) → tree_holds t w x ≡ not (tree_holds a w x)) → HasTruth t (λ w. not (p w))
has_not a t p h r e = record { reduced = r; truth = λ w x is. e w x ∙ ap not (h.truth w x is) }

-- the truth of a tree is the one that it has
pub region_truth : (t : Plain) (p : WorldFields → Bool) → HasTruth t p → (w : WorldFields) → IsWorld w → region_of t w ≡ p w
region_truth t p h w is = h.truth w [] is

pub always : (t : Plain) → t ≡ truth true → HasTruth t (λ w. true)
always t e = record { reduced = subst IsReduced (sym e) tt; truth = λ w x is. ap (λ (u : Plain). tree_holds u w x) e }

-- ---- the extra

-- with every level after the extra's, a tree asks for no extra
below_asks : (t : Plain) → Fits t extra_level → asks_extra t ≡ false
below_asks (truth b) h = refl
below_asks (node [] d bs) h = refl
below_asks (node (zero ∷ []) d bs) h = let e : Less ≡ Equal = sym h.0 ∙ cmp_itself extra_level in absurd (cc)
below_asks (node (suc i ∷ []) d bs) h = refl
below_asks (node (a ∷ b ∷ rest) d bs) h = refl

at_extra : (t : Plain) (x : List ℕ) → IsReduced t → asks_extra (at_extra_of t x) ≡ false
at_extra t x h = below_asks (at_extra_of t x) (part_fits t x h)

independent : (t : Plain) → IsReduced t → ((w : WorldFields) (x : List ℕ) → IsWorld w → IsExtra x → tree_holds t w x ≡ region_of t w) → asks_extra t ≡ false
independent t h same =
    ap asks_extra (one_truth_one_tree t (at_extra_of t []) h (operations.extra_reduced t [] h)
    (λ w x is ascii extra. same w x is extra ∙ sym (operations.extra_truth t [] h w x))) ∙ at_extra t [] h

-- a tree that asks for no extra has one truth with all of them
pub asks_alike : (t : Plain) → IsReduced t → asks_extra t ≡ false → (w : WorldFields) (x y : List ℕ) → tree_holds t w x ≡ tree_holds t w y
asks_alike t h a w x y = holds_alike t extra_level (value_of w x) (value_of w y) (no_extra_fits t h a) (below_extra w y x)

pub no_extra : NoExtra
no_extra = record {
  independent = independent;
  region = λ t h. independent t h.reduced (λ w x is extra. h.truth w x is);
  back = λ t h a. record { reduced = h; truth = λ w x is. asks_alike t h a w x [] };
  at_extra = at_extra;
}
