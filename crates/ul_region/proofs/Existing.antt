-- What exists at a world of a region, decided by diagrams.
use Rattle.std.specs.Prelude.{◌↔◌, IsTrue}
use Rattle.std.proofs.Common.{◌≡◌, ◌⊎◌, [], Bool, true, false, not, ◌&&◌, Decides, refl, sym, ap, ◌∙◌, inl, inr}
use Rattle.ul_comparison.specs.Worlds.{WorldFields, IsWorld}
use Rattle.ul_nodes.specs.Apply.{both, same}
use Rattle.ul_tree.specs.FirstParts.{is_false}
use Rattle.ul_tree.specs.Laws.{and_of, not_of}
use Rattle.ul_nodes.specs.Plain.{Plain, truth}
use Rattle.ul_nodes.specs.Reduced.{IsReduced}
use Rattle.ul_tree.specs.Regions.{HasTruth}
use Rattle.ul_tree.specs.Values.{tree_holds}
use Rattle.ul_nodes.proofs.ForCallers.{same_true, same_itself}
use Rattle.ul_tree.proofs.ForCallers.{operations, holds_somewhere, no_extra, region_tree, has_and, has_not, false_is, not_false_is, one_truth_one_tree}
use Rattle.ul_algebra.specs.Spelled.{tree_of}
use Rattle.ul_index.specs.Regions.{Region, Somewhere, Throughout}
use Rattle.ul_region.specs.Truths.{PassView, DiagramMark, IsTruth, truth_within, Apart}

pub and_true : (a b : Bool) → a ≡ true → b ≡ true → (a && b) ≡ true
and_true true b e h = h
and_true false b e h = cc

pub and_left : (a b : Bool) → (a && b) ≡ true → a ≡ true
and_left true b e = refl
and_left false b e = cc

pub and_right : (a b : Bool) → (a && b) ≡ true → b ≡ true
and_right true b e = e
and_right false b e = cc

right_fails : (a b : Bool) → a ≡ true → (a && b) ≡ false → b ≡ false
right_fails true b e h = h
right_fails false b e h = cc

pub not_of_false : (b : Bool) → b ≡ false → not b ≡ true
not_of_false true e = cc
not_of_false false e = refl

false_of_not : (b : Bool) → not b ≡ true → b ≡ false
false_of_not true e = cc
false_of_not false e = refl

-- a bit isn't both
pub clash : (b : Bool) → b ≡ true → b ≡ false → ⊥
clash true e f = cc
clash false e f = cc

-- a tree of a truth that isn't false is true at some world
pub some_world : (t : Plain) (p : WorldFields → Bool) → HasTruth t p → (t ≡ truth false → ⊥) → (w : WorldFields) × IsWorld w × (p w ≡ true)
some_world t p h n =
    let found = holds_somewhere.without_extra t h.reduced n (no_extra.region t (region_tree t p h)) in
    (found.0, found.1, sym (h.truth found.0 [] found.1) ∙ found.2 [])

-- and one that is false is true at none
pub no_world : (t : Plain) (p : WorldFields → Bool) → HasTruth t p → t ≡ truth false → (w : WorldFields) → IsWorld w → p w ≡ false
no_world t p h e w is = sym (h.truth w [] is) ∙ ap (λ (u : Plain). tree_holds u w []) e

-- a diagram of a truth in a region is false exactly where the truth holds at no world of it
pub somewhere_decided : (h : PassView) (m : DiagramMark) (R : Region) (p : WorldFields → Bool) → IsTruth h m (truth_within R p) → (b : Bool) → IsTrue b ↔ (tree_of m ≡ truth false) → Decides (not b) (Somewhere R p)
somewhere_decided h m R p k true d = ((λ e. cc), (λ s. absurd (clash (truth_within R p s.0) (and_true (R s.0) (p s.0) s.2 s.3) (no_world (tree_of m) (truth_within R p) k.truth (d.0 refl) s.0 s.1))))
somewhere_decided h m R p k false d = ((λ e. found), (λ s. refl))
  where
    found : Somewhere R p
    found = let w = some_world (tree_of m) (truth_within R p) k.truth (λ e. clash false (d.1 e) refl) in
        (w.0, w.1, and_left (R w.0) (p w.0) w.2, and_right (R w.0) (p w.0) w.2)

-- the tree that has the first truth and not the second
pub alone_truth : (a b : Plain) (f g : WorldFields → Bool) → HasTruth a f → HasTruth b g → HasTruth (and_of a (not_of b)) (λ w. f w && not (g w))
alone_truth a b f g h k =
    let reduced : IsReduced (not_of b) = operations.join_reduced (λ x y. not x) b (truth false) k.reduced tt in
    let fails : HasTruth (not_of b) (λ w. not (g w)) = has_not b (not_of b) g k reduced (λ w x. operations.join_truth (λ x y. not x) b (truth false) k.reduced tt w x) in
    has_and a (not_of b) (and_of a (not_of b)) f (λ w. not (g w)) h fails (operations.join_reduced both a (not_of b) h.reduced reduced) (λ w x. operations.join_truth both a (not_of b) h.reduced reduced w x)

-- a world where one is true and the other isn't
abbrev Alone : (WorldFields → Bool) → (WorldFields → Bool) → Type 0
Alone f g = (w : WorldFields) × IsWorld w × (f w ≡ true) × (g w ≡ false)

alone_in : (f g : WorldFields → Bool) → ((w : WorldFields) × IsWorld w × ((f w && not (g w)) ≡ true)) → Alone f g
alone_in f g s = (s.0, s.1, and_left (f s.0) (not (g s.0)) s.2, false_of_not (g s.0) (and_right (f s.0) (not (g s.0)) s.2))

same_bits : (a b : Bool) → (a && not b) ≡ false → (b && not a) ≡ false → a ≡ b
same_bits true true e h = refl
same_bits true false e h = cc
same_bits false true e h = cc
same_bits false false e h = refl

-- trees that differ have truths that differ at some world
pub differ : (a b : Plain) (f g : WorldFields → Bool) → HasTruth a f → HasTruth b g → (a ≡ b → ⊥) → Alone f g ⊎ Alone g f
differ a b f g h k n = by_first (is_false (and_of a (not_of b))) refl
  where
    one : HasTruth (and_of a (not_of b)) (λ w. f w && not (g w))
    one = alone_truth a b f g h k

    two : HasTruth (and_of b (not_of a)) (λ w. g w && not (f w))
    two = alone_truth b a g f k h

    equal : and_of a (not_of b) ≡ truth false → and_of b (not_of a) ≡ truth false → a ≡ b
    equal e u = one_truth_one_tree a b h.reduced k.reduced (λ w x is ascii extra. h.truth w x is ∙ (same_bits (f w) (g w) (no_world _ _ one e w is) (no_world _ _ two u w is) ∙ sym (k.truth w x is)))

    by_second : and_of a (not_of b) ≡ truth false → (c : Bool) → is_false (and_of b (not_of a)) ≡ c → Alone f g ⊎ Alone g f
    by_second e true c = absurd (n (equal e (false_is (and_of b (not_of a)) c)))
    by_second e false c = inr (alone_in g f (some_world _ _ two (not_false_is (and_of b (not_of a)) c)))

    by_first : (c : Bool) → is_false (and_of a (not_of b)) ≡ c → Alone f g ⊎ Alone g f
    by_first true c = by_second (false_is (and_of a (not_of b)) c) (is_false (and_of b (not_of a))) refl
    by_first false c = inl (alone_in f g (some_world _ _ one (not_false_is (and_of a (not_of b)) c)))

equal_truth : (a b : Plain) (f g : WorldFields → Bool) → HasTruth a f → HasTruth b g → a ≡ b → (w : WorldFields) → IsWorld w → f w ≡ g w
equal_truth a b f g h k e w is = sym (h.truth w [] is) ∙ (ap (λ (u : Plain). tree_holds u w []) e ∙ k.truth w [] is)

-- a truth in the region is the region exactly where it holds at each world of it
pub throughout_decided : (h : PassView) (m r : DiagramMark) (R : Region) (p : WorldFields → Bool) → IsTruth h m (truth_within R p) → IsTruth h r R → (b : Bool) → b ≡ same (tree_of m) (tree_of r) → Decides (not b) (Somewhere R (λ w. not (p w)))
throughout_decided h m r R p k l true e = ((λ u. cc), (λ s. absurd (clash (p s.0) (holds s.0 s.1 s.2) (false_of_not (p s.0) s.3))))
  where
    holds : (w : WorldFields) → IsWorld w → R w ≡ true → p w ≡ true
    holds w is i = and_right (R w) (p w) (equal_truth (tree_of m) (tree_of r) (truth_within R p) R k.truth l.truth (same_true (tree_of m) (tree_of r) (sym e)) w is ∙ i)
throughout_decided h m r R p k l false e = ((λ u. found (differ (tree_of m) (tree_of r) (truth_within R p) R k.truth l.truth unequal)), (λ s. refl))
  where
    unequal : tree_of m ≡ tree_of r → ⊥
    unequal q = clash (same (tree_of m) (tree_of r)) (sym (ap (same (tree_of m)) q) ∙ same_itself (tree_of m)) (sym e)

    found : Alone (truth_within R p) R ⊎ Alone R (truth_within R p) → Somewhere R (λ w. not (p w))
    found (inl a) = absurd (clash (R a.0) (and_left (R a.0) (p a.0) a.2) a.3)
    found (inr a) = (a.0, a.1, a.2, not_of_false (p a.0) (right_fails (R a.0) (p a.0) a.2 a.3))

or_holds : (b : Bool) → (not b ≡ true → ⊥) → b ≡ true
or_holds true h = refl
or_holds false h = absurd (h refl)

pub everywhere_decided : (R : Region) (p : WorldFields → Bool) (b : Bool) → Decides (not b) (Somewhere R (λ w. not (p w))) → Decides b (Throughout R p)
everywhere_decided R p true d = ((λ e w is i. or_holds (p w) (λ n. clash false (d.1 (w, is, i, n)) refl)), (λ t. refl))
everywhere_decided R p false d = ((λ e. cc), (λ t. let s = d.0 refl in absurd (clash (p s.0) (t s.0 s.1 s.2) (false_of_not (p s.0) s.3))))

-- two truths in a region are one tree exactly where they are apart nowhere in it
pub apart_decided : (h : PassView) (a b : DiagramMark) (R : Region) (p q : WorldFields → Bool) → IsTruth h a (truth_within R p) → IsTruth h b (truth_within R q) → (s : Bool) → s ≡ same (tree_of a) (tree_of b) → Decides (not s) (Apart R p q)
apart_decided h a b R p q k l true e = ((λ u. cc), (λ s. absurd (nowhere s)))
  where
    alike : (w : WorldFields) → IsWorld w → truth_within R p w ≡ truth_within R q w
    alike w is = equal_truth (tree_of a) (tree_of b) (truth_within R p) (truth_within R q) k.truth l.truth (same_true (tree_of a) (tree_of b) (sym e)) w is

    not_alone : (f g : WorldFields → Bool) → ((w : WorldFields) → IsWorld w → truth_within R f w ≡ truth_within R g w) → Somewhere R (λ w. f w && not (g w)) → ⊥
    not_alone f g same s = clash (g s.0)
        (and_right (R s.0) (g s.0) (sym (same s.0 s.1) ∙ and_true (R s.0) (f s.0) s.2 (and_left (f s.0) (not (g s.0)) s.3)))
        (false_of_not (g s.0) (and_right (f s.0) (not (g s.0)) s.3))

    nowhere : Apart R p q → ⊥
    nowhere (inl s) = not_alone p q alike s
    nowhere (inr s) = not_alone q p (λ w is. sym (alike w is)) s
apart_decided h a b R p q k l false e = ((λ u. found (differ (tree_of a) (tree_of b) (truth_within R p) (truth_within R q) k.truth l.truth unequal)), (λ s. refl))
  where
    unequal : tree_of a ≡ tree_of b → ⊥
    unequal c = clash (same (tree_of a) (tree_of b)) (sym (ap (same (tree_of a)) c) ∙ same_itself (tree_of a)) (sym e)

    one_alone : (f g : WorldFields → Bool) → Alone (truth_within R f) (truth_within R g) → Somewhere R (λ w. f w && not (g w))
    one_alone f g s = let i = and_left (R s.0) (f s.0) s.2 in
        (s.0, s.1, i, and_true (f s.0) (not (g s.0)) (and_right (R s.0) (f s.0) s.2) (not_of_false (g s.0) (right_fails (R s.0) (g s.0) i s.3)))

    found : Alone (truth_within R p) (truth_within R q) ⊎ Alone (truth_within R q) (truth_within R p) → Apart R p q
    found (inl s) = inl (one_alone p q s)
    found (inr s) = inr (one_alone q p s)
