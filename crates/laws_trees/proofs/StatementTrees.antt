-- Statements at worlds that have a tree: one that is true exactly where they hold.
use Rattle.std.proofs.Common.{◌≡◌, ◌⊎◌, ◌&&◌, ◌||◌, ℕ, List, [], Bool, true, false, Decides, refl, sym, inl, inr}
use Rattle.std.proofs.lemmas.Bool.{true≢false}
use Rattle.std.proofs.lemmas.Bool.Decides.{Decides-and, Decides-at, Decides-like, Decides-or, same_from_decides}
use Rattle.ul_comparison.specs.Worlds.{WorldFields, IsWorld}
use Rattle.ul_nodes.specs.Plain.{Plain}
use Rattle.ul_nodes.specs.Reduced.{IsReduced}
use Rattle.ul_tree.specs.Regions.{IsRegionTree, region_of}
use Rattle.ul_tree.specs.Values.{tree_holds}
use Rattle.laws_trees.specs.Decided.{Decided}
use Rattle.laws_trees.specs.Trees.{HasTree}
use Rattle.laws_trees.proofs.Deciding.{decided_as}
use Rattle.laws_trees.proofs.Known.{IsKept}
use Rattle.laws_trees.proofs.Regions.{somewhere}
use Rattle.laws_trees.proofs.Truths.{always_has, both_have, one_has}

-- a reduced tree that holds exactly at the worlds of the statement, whatever the extra
pub record IsTreeOf (P : WorldFields → Type 0) (t : Plain) : Type 0 where
  pub reduced : IsReduced t
  pub truth : (w : WorldFields) (x : List ℕ) → IsWorld w → Decides (tree_holds t w x) (P w)

-- there is such a tree
abbrev pub HasTreeOf : (WorldFields → Type 0) → Type 0
HasTreeOf P = (t : Plain) × IsTreeOf P t

-- ---- statements and truths

-- a statement that a truth decides, which has a tree
pub tree_by : (P : WorldFields → Type 0) (p : WorldFields → Bool) → HasTree p
    → ((w : WorldFields) → IsWorld w → Decides (p w) (P w)) → HasTreeOf P
tree_by P p h d = (
  h.0,
  record {
    reduced = h.1.reduced;
    truth = λ w x is. Decides-at (tree_holds h.0 w x) (p w) (h.1.truth w x is) (d w is);
  },
)

-- a truth that has a tree
pub truth_tree : (p : WorldFields → Bool) → HasTree p → HasTreeOf (λ w. p w ≡ true)
truth_tree p h = tree_by (λ w. p w ≡ true) p h (λ w is. (λ e. e, λ e. e))

-- a statement's tree is a region's
pub region_by : (P : WorldFields → Type 0) (t : Plain) → IsTreeOf P t → IsRegionTree t
region_by P t h = record {
  reduced = h.reduced;
  truth = λ w x is. same_from_decides (tree_holds t w x) (region_of t w) (h.truth w x is) (h.truth w [] is);
}

-- the truth of a statement's tree
truth_by : (P : WorldFields → Type 0) (h : HasTreeOf P) → HasTree (region_of h.0)
truth_by P h = (h.0, region_by P h.0 h.1)

-- ---- statements made of others

either_tree : (P Q : WorldFields → Type 0) → HasTreeOf P → HasTreeOf Q → HasTreeOf (λ w. P w ⊎ Q w)
either_tree P Q h k =
    tree_by (λ w. P w ⊎ Q w) (λ w. region_of h.0 w || region_of k.0 w)
    (one_has (region_of h.0) (region_of k.0) (truth_by P h) (truth_by Q k))
    (λ w is. Decides-or (region_of h.0 w) (region_of k.0 w) (h.1.truth w [] is) (k.1.truth w [] is))

both_tree : (P Q : WorldFields → Type 0) → HasTreeOf P → HasTreeOf Q → HasTreeOf (λ w. P w × Q w)
both_tree P Q h k =
    tree_by (λ w. P w × Q w) (λ w. region_of h.0 w && region_of k.0 w)
    (both_have (region_of h.0) (region_of k.0) (truth_by P h) (truth_by Q k))
    (λ w is. Decides-and (region_of h.0 w) (region_of k.0 w) (h.1.truth w [] is) (k.1.truth w [] is))

-- what holds at the same worlds
pub same_tree : (P Q : WorldFields → Type 0) → ((w : WorldFields) → IsWorld w → P w → Q w)
    → ((w : WorldFields) → IsWorld w → Q w → P w) → HasTreeOf P → HasTreeOf Q
same_tree P Q there back h =
    tree_by Q (region_of h.0) (truth_by P h)
    (λ w is. Decides-like (region_of h.0 w) (there w is) (back w is) (h.1.truth w [] is))

-- a statement that isn't of worlds, and is decided
pub decided_tree : (A : Type 0) → Decided A → HasTreeOf (λ w. A)
decided_tree A (inl a) = tree_by (λ w. A) (λ w. true) (always_has true) (λ w is. (λ e. a, λ h. refl))
decided_tree A (inr z) =
    tree_by (λ w. A) (λ w. false) (always_has false) (λ w is. (λ e. absurd (true≢false (sym e)), λ a. absurd (z a)))

pub trees_kept : IsKept HasTreeOf
trees_kept = record {
  either = either_tree;
  both = both_tree;
  same = λ P Q e h. same_tree P Q (λ w is. (e w).0) (λ w is. (e w).1) h;
  nowhere = decided_tree ⊥ (inr (λ z. z));
}

-- what holds under a condition that is decided
pub given_tree : (A : Type 0) (P : WorldFields → Type 0) → Decided A → (A → HasTreeOf P) → HasTreeOf (λ w. A × P w)
given_tree A P (inl a) h = same_tree P (λ w. A × P w) (λ w is p. (a, p)) (λ w is p. p.1) (h a)
given_tree A P (inr z) h =
    same_tree (λ w. A) (λ w. A × P w) (λ w is a. absurd (z a)) (λ w is p. p.0) (decided_tree A (inr z))

-- ---- somewhere

-- whether it holds somewhere is decided
pub somewhere_decided : (P : WorldFields → Type 0) → HasTreeOf P → Decided ((w : WorldFields) × IsWorld w × P w)
somewhere_decided P h =
    decided_as (somewhere (λ w. true) (region_of h.0) (always_has true) (truth_by P h))
    (λ s. (s.0, s.1, (h.1.truth s.0 [] s.1).0 s.3)) (λ p. (p.0, p.1, refl, (h.1.truth p.0 [] p.1).1 p.2))
