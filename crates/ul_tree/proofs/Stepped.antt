-- The tree of a truth that changes at each start.
use Rattle.std.proofs.Common.{◌≡◌, ℕ, ◌^◌, ◌<◌, List, [], ◌∷◌, Bool, true, false, refl, sym, ap, ◌∙◌, arith, subst, inl, inr, Less, Equal, Greater, length, Some, ◌++◌, ◌+◌, map, drop, append_assoc}
use Rattle.std.specs.Prelude.{not}
use Rattle.std.proofs.lemmas.List.{drop_more, map-append}
use Rattle.std.proofs.lemmas.Bool.{cases_lt, lt-ltb, le-ltb}
use Rattle.ul_version.specs.Fields.{plain}
use Rattle.ul_specifier.specs.Clauses.{ClauseFields}
use Rattle.ul_specifier.specs.Meaning.{meets_clause}
use Rattle.ul_comparison.specs.Truth.{python_release}
use Rattle.ul_comparison.specs.Worlds.{WorldFields, IsWorld}
use Rattle.ul_nodes.specs.Plain.{truth, node, branch, text_cmp, holds_of, holds_in}
use Rattle.ul_nodes.specs.Levels.{python_level}
use Rattle.ul_nodes.specs.Reduced.{IsReduced, FitsAll, StartsAfter}
use Rattle.ul_tree.specs.Values.{number_of, tree_holds}
use Rattle.ul_nodes.specs.Closing.{python_of, pieces_of}
use Rattle.ul_tree.specs.Views.{tree_view}
use Rattle.ul_tree.specs.Pieces.{meets_at, major_of, minor_of, patch_of, starts_of, steps_of, stepped_of, flipping}
use Rattle.ul_tree.specs.declared.tree.Tree.{Tree, Truth}
use Rattle.ul_nodes.proofs.ForCallers.{cmp_less, cmp_more, cmp_itself}
use Rattle.ul_tree.proofs.Shapes.{view_truth}
use Rattle.ul_tree.proofs.Changes.{Climb, flipped_at, starts-climb, starts-hold}

-- ---- its truth

flipped-first : (held : Bool) (n : ℕ) (ss : List ℕ) → Climb n ss → flipped_at held ss n ≡ held
flipped-first held n [] u = refl
flipped-first held n (s ∷ ss) u = rw (lt-ltb n s u.0) refl

key_less : (x y : ℕ) → x < y → text_cmp (x ∷ []) (y ∷ []) ≡ Less
key_less x y h = rw (cmp_less x y h) refl

key_same : (x y : ℕ) → x ≡ y → text_cmp (x ∷ []) (y ∷ []) ≡ Equal
key_same x y h = rw h (cmp_itself (y ∷ []))

key_more : (x y : ℕ) → y < x → text_cmp (x ∷ []) (y ∷ []) ≡ Greater
key_more x y h = rw (cmp_more x y h) refl

steps_hold : (held : Bool) (lo n : ℕ) (ss : List ℕ) (f : List ℕ → List ℕ) → Climb lo ss → holds_in (steps_of held ss) true (n ∷ []) held f ≡ flipped_at held ss n
steps_hold held lo n [] f u = refl
steps_hold held lo n (s ∷ ss) f u = elim (cases_lt n s) [
  | inl below ↦ rw (key_less n s below, lt-ltb n s below) refl
  | inr from ↦ (elim (cases_lt s n) [
    | inl above ↦ rw (key_more n s above, le-ltb n s from) (steps_hold (not held) s n ss f u.2)
    | inr under ↦ let is : s ≡ n = omega arith in rw (key_same n s (sym is), le-ltb n s from) (sym (flipped-first (not held) n ss (subst (λ (k : ℕ). Climb k ss) is u.2)))
  ])
]

pub stepped_holds : (held : Bool) (n : ℕ) (ss : List ℕ) (f : List ℕ → List ℕ) → f python_level ≡ n ∷ [] → Climb 0 ss → holds_of (stepped_of held ss) f ≡ flipped_at held ss n
stepped_holds held n [] f e u = refl
stepped_holds held n (s ∷ ss) f e u = rw e (steps_hold held 0 n (s ∷ ss) f u)

-- ---- it is reduced

steps_after : (held : Bool) (lo : ℕ) (ss : List ℕ) → Climb lo ss → StartsAfter (Some (lo ∷ [])) (steps_of held ss)
steps_after held lo [] u = tt
steps_after held lo (s ∷ ss) u = key_less lo s u.0

truths_differ : (b : Bool) → truth (not b) ≡ truth b → ⊥
truths_differ true h = cc
truths_differ false h = cc

pub steps_fit : (held : Bool) (lo : ℕ) (ss : List ℕ) → Climb lo ss → FitsAll (steps_of held ss) python_level (truth held)
steps_fit held lo [] u = tt
steps_fit held lo (s ∷ ss) u = ((s, refl, omega (arith, u.0), u.1), steps_after (not held) s ss u.2, tt, truths_differ held, steps_fit (not held) s ss u.2)

pub stepped_fits : (held : Bool) (ss : List ℕ) → Climb 0 ss → IsReduced (stepped_of held ss)
stepped_fits held [] u = tt
stepped_fits held (s ∷ ss) u = (refl, tt, tt, steps_fit held 0 (s ∷ ss) u)

-- ---- the tree of a clause

world_numbers : (w : WorldFields) → IsWorld w → (major_of (number_of w) ≡ w.major) × (minor_of (number_of w) ≡ w.minor) × (patch_of (number_of w) ≡ w.patch)
world_numbers w h = (omega arith, omega arith, omega arith)

pub clause_holds : (s : ClauseFields) (full : Bool) (w : WorldFields) (x : List ℕ) → IsWorld w
    → tree_holds (stepped_of (meets_at s full 0) (starts_of s full)) w x ≡ meets_clause s (plain (python_release full w))
unfolding meets_at
clause_holds s full w x h =
    let numbers = world_numbers w h in
    let fits : number_of w < 2 ^ 96 = omega arith in
    stepped_holds (meets_at s full 0) (number_of w) (starts_of s full) _ refl (starts-climb s full)
    ∙ starts-hold s full (number_of w) fits
    ∙ rw (numbers.0, numbers.1, numbers.2) refl

-- ---- as pieces and parts

pieces_flipping : (held : Bool) (ss : List ℕ) → pieces_of ss (flipping held ss) ≡ steps_of held ss
pieces_flipping held [] = refl
pieces_flipping held (s ∷ ss) = ap (branch (s ∷ []) (truth (not held))) (pieces_flipping (not held) ss)

pub python_stepped : (held : Bool) (ss : List ℕ) → 0 < length ss → python_of (0 ∷ ss) (truth held ∷ flipping held ss) ≡ stepped_of held ss
python_stepped held [] h = absurd (omega arith)
python_stepped held (s ∷ ss) h = ap (node python_level (truth held)) (pieces_flipping held (s ∷ ss))

-- one part more
pub parts_step : (held : Bool) (before after : List Tree) (starts : List ℕ) (i d : ℕ) → i < length starts → after ≡ before ++ Truth (not held) ∷ []
    → map tree_view after ++ flipping (not held) (drop (i + 1) starts) ≡ map tree_view before ++ flipping held (drop i starts)
parts_step held before after starts i d h e =
    let rest = flipping (not held) (drop (i + 1) starts) in
    ap (λ z. map tree_view z ++ rest) e
    ∙ ap (λ z. z ++ rest) (map-append tree_view before (Truth (not held) ∷ []))
    ∙ append_assoc (map tree_view before) (tree_view (Truth (not held)) ∷ []) rest
    ∙ ap (λ t. map tree_view before ++ (t ∷ rest)) (view_truth (not held))
    ∙ sym (ap (λ z. map tree_view before ++ flipping held z) (drop_more starts i d h))
