-- What stands among the comparisons that are asked.
use Rattle.std.proofs.Common.{◌≡◌, ◌∙◌, ◌++◌, ◌||◌, ⊎_elim, ℕ, List, [], ◌∷◌, Bool, true, false, Less, Equal, Greater, Ordering, flat_map, refl, ap, subst}
use Rattle.std.specs.Prelude.{Contains}
use Rattle.std.specs.Ordering.{is_eq}
use Rattle.std.proofs.lemmas.Bool.{not-false}
use Rattle.std.proofs.lemmas.List.Elements.{Contains-append_left, Contains-append_right, Contains-append_cases}
use Rattle.ul_base.proofs.ForCallers.{contains_cases, contains_first, contains_from_flat, contains_later, none_in}
use Rattle.ul_comparison.specs.Atoms.{AtomFields, atom_cmp, has_atom}
use Rattle.ul_comparison.proofs.ForCallers.{same_atom}
use Rattle.ul_nodes.specs.Levels.{atom_level}
use Rattle.ul_nodes.specs.Plain.{Plain, truth, node, Branches, done, branch}
use Rattle.ul_nodes.proofs.ForCallers.{cmp_itself}
use Rattle.ul_tree.specs.Sample.{atom_of}
use Rattle.ul_filter.specs.Comparisons.{HasAll, branch_atoms, level_atoms, tree_atoms}
use Rattle.laws_comparisons.proofs.Levels.{EachLevelIn}
use Rattle.laws_comparisons.proofs.Stripped.{is_unasked}
use Rattle.laws_comparisons.proofs.Trees.{AsksThese}

-- each comparison of a list is asked
abbrev pub AreAsked : List AtomFields → List AtomFields → Type 0
AreAsked asked ts = (a : AtomFields) → Contains ts a → has_atom asked a ≡ true

-- ---- members, and the test for them

is_equal : (o : Ordering) → is_eq o ≡ true → o ≡ Equal
is_equal Less e = absurd (cc e)
is_equal Equal e = refl
is_equal Greater e = absurd (cc e)

-- what the test finds is a member
pub stands : (ts : List AtomFields) (a : AtomFields) → has_atom ts a ≡ true → Contains ts a
stands [] a e = absurd (cc e)
stands (b ∷ ts) a e = go (is_eq (atom_cmp b a)) refl e (stands ts a)
  where
    go : (t : Bool) → is_eq (atom_cmp b a) ≡ t → (t || has_atom ts a) ≡ true → (has_atom ts a ≡ true → Contains ts a) → Contains (b ∷ ts) a
    go true q e later = subst (Contains (b ∷ ts)) (same_atom b a (is_equal (atom_cmp b a) q)) (contains_first b ts)
    go false q e later = contains_later b ts a (later e)

tested : (ts : List AtomFields) (a : AtomFields) → Contains ts a → has_atom ts a ≡ true
tested [] a h = absurd (none_in a h)
tested (b ∷ ts) a h = ⊎_elim (λ e. first e) (λ m. later (is_eq (atom_cmp b a)) (tested ts a m)) (contains_cases b ts a h)
  where
    first : a ≡ b → (is_eq (atom_cmp b a) || has_atom ts a) ≡ true
    first e = ap (λ x. is_eq x || has_atom ts a) (ap (atom_cmp b) e ∙ cmp_itself (atom_level b))

    later : (t : Bool) → has_atom ts a ≡ true → (t || has_atom ts a) ≡ true
    later true e = refl
    later false e = e

-- comparisons that are all asked are had by what asks them
pub had : (asked ts : List AtomFields) → AreAsked asked ts → HasAll asked ts
had asked ts h a e = h a (stands ts a e)

-- what stands among others is asked where these are
pub asks_itself : (asked ts : List AtomFields) → ((a : AtomFields) → Contains ts a → Contains asked a) → AreAsked asked ts
asks_itself asked ts h a m = tested asked a (h a m)

-- ---- lists that are joined

pub joined : (asked ts us : List AtomFields) → AreAsked asked ts → AreAsked asked us → AreAsked asked (ts ++ us)
joined asked ts us h k a m = ⊎_elim (λ x. h a x) (λ y. k a y) (Contains-append_cases ts us a m)

pub front : (asked ts us : List AtomFields) → AreAsked asked (ts ++ us) → AreAsked asked ts
front asked ts us h a m = h a (Contains-append_left ts us a m)

pub back : (asked ts us : List AtomFields) → AreAsked asked (ts ++ us) → AreAsked asked us
back asked ts us h a m = h a (Contains-append_right ts us a m)

pub joined_all : {A : Type 0} (f : A → List AtomFields) (asked : List AtomFields) (xs : List A)
    → ((x : A) → Contains xs x → AreAsked asked (f x)) → AreAsked asked (flat_map f xs)
joined_all f asked xs h a m = let found = contains_from_flat f xs a m in h found.0 found.1 a found.2

-- ---- trees

level_asks : (asked : List AtomFields) (l : List ℕ) → is_unasked asked l ≡ false → AreAsked asked (level_atoms l)
level_asks asked [] e a m = absurd (none_in a m)
level_asks asked (b ∷ []) e a m = absurd (none_in a m)
level_asks asked (b ∷ c ∷ rest) e a m =
    ⊎_elim (λ q. ap (has_atom asked) q ∙ not-false (has_atom asked (atom_of (b ∷ c ∷ rest))) e) (λ n. absurd (none_in a n))
    (contains_cases (atom_of (b ∷ c ∷ rest)) [] a m)

mutual
  pub tree_has : (asked : List AtomFields) (t : Plain) → AsksThese asked t → AreAsked asked (tree_atoms t)
  tree_has asked (truth b) h = λ a m. absurd (none_in a m)
  tree_has asked (node l d bs) h =
      joined asked (level_atoms l) (tree_atoms d ++ branch_atoms bs) (level_asks asked l h.0)
      (joined asked (tree_atoms d) (branch_atoms bs) (tree_has asked d h.1) (branches_have asked bs h.2))

  branches_have : (asked : List AtomFields) (bs : Branches) → EachLevelIn (λ l. is_unasked asked l ≡ false) bs → AreAsked asked (branch_atoms bs)
  branches_have asked done h = λ a m. absurd (none_in a m)
  branches_have asked (branch k c rest) h =
      joined asked (tree_atoms c) (branch_atoms rest) (tree_has asked c h.0) (branches_have asked rest h.1)
