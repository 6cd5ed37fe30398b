-- Nodes that the code closes.
use Rattle.std.proofs.Common.{◌≡◌, ◌≢◌, ℕ, ◌<◌, List, [], ◌∷◌, length, get_or, drop, ◌+◌, Bool, true, false, not, ◌&&◌, refl, ap, sym, ◌∙◌, subst, arith, Less, Option, Some}
use Rattle.std.specs.Prelude.{All}
use Rattle.std.specs.List.{remove}
use Rattle.std.proofs.lemmas.List.{drop_more}
use Rattle.std.proofs.lemmas.List.Elements.{All-cons, All-nil}
use Rattle.ul_nodes.specs.Apply.{same}
use Rattle.ul_marker.specs.declared.printed.Comparison.{Comparison}
use Rattle.ul_marker.specs.declared.printed.Comparison.TheVariants.{Bound, Extra as Ask, Text as Words, Opaque as Atomic}
use Rattle.ul_tree.specs.Joins.{trees_made}
use Rattle.ul_nodes.specs.Keys.{level_view, key_view}
use Rattle.ul_nodes.specs.Levels.{python_level}
use Rattle.ul_nodes.specs.Plain.{Plain, done, branch, text_cmp, carries, carried_part}
use Rattle.ul_nodes.specs.Reduced.{Fits, IsReduced}
use Rattle.ul_tree.specs.Views.{tree_view}
use Rattle.ul_nodes.specs.declared.level.Key.{Key}
use Rattle.ul_nodes.specs.declared.level.Level.{Level}
use Rattle.ul_nodes.specs.declared.level.Level.TheVariants.{Extra, Python, Text, Opaque}
use Rattle.ul_tree.specs.declared.tree.Tree.{Tree}
use Rattle.ul_nodes.proofs.ForCallers.{fits_weaker}
use Rattle.ul_marker_text.specs.NodeViews.{first_level, has_interval}
use Rattle.ul_marker_text.specs.Nodes.{BranchesFit, PartsFit, parts_view, number_branches, is_after, are_apart}
use Rattle.ul_marker_text.specs.StepViews.{comparison_level}
use Rattle.ul_marker_text.specs.declared.steps.Step.{Step}
use Rattle.ul_marker_text.specs.declared.steps.Step.TheVariants.{Interval, Point, Others}
use Rattle.ul_marker_text.proofs.NodeFacts.{interval_level}

-- each level comes after none
pub level_first : (l : Level) → text_cmp [] (level_view l) ≡ Less
level_first Extra = refl
level_first Python = refl
level_first (Text variable) = refl
level_first (Opaque atom) = refl

pub tree_reduced : (level : Level) (t : Plain) → Fits t (level_view level) → IsReduced t
tree_reduced level t h = fits_weaker t (level_view level) [] (level_first level) h

pub trees_reduced : (level : Level) (xs : List (Key × Tree)) → BranchesFit (level_view level) (trees_made xs) → All (λ e. IsReduced (tree_view e.1)) xs
trees_reduced level [] h = All-nil (λ e. IsReduced (tree_view e.1))
trees_reduced level (x ∷ xs) h = All-cons (λ e. IsReduced (tree_view e.1)) x xs (tree_reduced level (tree_view x.1) h.0) (trees_reduced level xs h.1)

pub none_made : (xs : List (Key × Tree)) → length xs ≡ 0 → trees_made xs ≡ done
none_made [] h = refl
none_made (x ∷ xs) h = absurd (omega arith)

pub some_made : (xs : List (Key × Tree)) → length xs ≢ 0 → trees_made xs ≢ done
some_made [] h e = h refl
some_made (x ∷ xs) h e = cc

-- ---- the level of a node

level_flat : (c : Comparison) → carries (comparison_level c) ≡ false
level_flat (Bound lower python) = refl
level_flat (Ask literal equal) = refl
level_flat (Words variable literal equal) = refl
level_flat (Atomic atom holds) = refl

-- a node whose first part isn't at an interval is one of points
pub first_flat : (parts : List (Step × Tree)) (l : List ℕ) → has_interval (parts_view parts) ≡ false → first_level (parts_view parts) ≡ Some l → carries l ≡ false
first_flat [] l e f = absurd cc
first_flat ((Interval a b, t) ∷ parts) l e f = absurd cc
first_flat ((Point c, t) ∷ parts) l e f = let q : comparison_level c ≡ l = cc in subst (λ (z : List ℕ). carries z ≡ false) q (level_flat c)
first_flat ((Others c cs, t) ∷ parts) l e f = let q : comparison_level c ≡ l = cc in subst (λ (z : List ℕ). carries z ≡ false) q (level_flat c)

pub interval_fits : (parts : List (Step × Tree)) (l : List ℕ) → has_interval (parts_view parts) ≡ true → first_level (parts_view parts) ≡ Some l → PartsFit l (parts_view parts) → PartsFit python_level (parts_view parts)
interval_fits parts l e f h = subst (λ (z : List ℕ). PartsFit z (parts_view parts)) (interval_level (parts_view parts) l e f) h

-- ---- branches one after the other

pub entry_reduced : (xs : List (Key × Tree)) (i : ℕ) (x : Key × Tree) → i < length xs → x ≡ get_or xs i x → All (λ e. IsReduced (tree_view e.1)) xs → IsReduced (tree_view x.1)
entry_reduced xs i x h e all = subst (λ (z : Key × Tree). IsReduced (tree_view z.1)) (sym e) (all i x h)

pub apart_step : (xs : List (Key × Tree)) (i : ℕ) (x : Key × Tree) (last : Option (List ℕ)) (m : Bool) (d : Plain) → i < length xs → x ≡ get_or xs i x → is_after last (key_view x.0) ≡ true → same (tree_view x.1) d ≡ false
    → are_apart last m d (trees_made (drop i xs)) ≡ are_apart (Some (key_view x.0)) m (carried_part m (tree_view x.1) d) (trees_made (drop (i + 1) xs))
apart_step xs i x last m d h e a s =
    let rest = trees_made (drop (i + 1) xs) in
    let next : Bool = are_apart (Some (key_view x.0)) m (carried_part m (tree_view x.1) d) rest in
    ap (λ z. are_apart last m d (trees_made z)) (drop_more xs i x h)
    ∙ ap (λ z. are_apart last m d (branch (key_view z.0) (tree_view z.1) rest)) (sym e)
    ∙ ap (λ b. b && (not (same (tree_view x.1) d) && next)) a
    ∙ ap (λ b. not b && next) s

-- ---- pieces

-- the first piece, and those after it
pub first_piece : (xs : List (ℕ × Tree)) (x : ℕ × Tree) (rest : List (ℕ × Tree)) → 0 < length xs → x ≡ get_or xs 0 x → rest ≡ remove xs 0 → number_branches xs ≡ branch (x.0 ∷ []) (tree_view x.1) (number_branches rest)
first_piece [] x rest h e r = absurd (omega arith)
first_piece (y ∷ xs) x rest h e r = ap (λ z. branch (z.0 ∷ []) (tree_view z.1) (number_branches xs)) (sym e) ∙ ap (λ z. branch (x.0 ∷ []) (tree_view x.1) (number_branches z)) (sym r)
