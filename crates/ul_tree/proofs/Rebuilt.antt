-- Branches that were made, before those that are left.
use Rattle.std.proofs.Common.{arith, ◌≡◌, ℕ, ◌+◌, ◌<◌, List, [], ◌∷◌, ◌++◌, map, length, drop, get_or, Global, refl, ap, sym, ◌∙◌, String, string_bytes}
use Rattle.std.proofs.lemmas.List.{drop_more}
use Rattle.ul_nodes.specs.Plain.{Branches, branch}
use Rattle.ul_nodes.specs.Closing.{keyed_branches}
use Rattle.ul_nodes.specs.Keys.{then_branches}
use Rattle.ul_tree.specs.Views.{tree_view, points_view}
use Rattle.ul_tree.specs.declared.tree.Tree.{Tree}
use Rattle.ul_nodes.proofs.ForCallers.{then_none}

-- ---- points

pub points_push : (xs : List (String Global × Tree)) (e : String Global × Tree) (rest : Branches)
    → then_branches (points_view (xs ++ e ∷ [])) rest ≡ then_branches (points_view xs) (branch (string_bytes e.0) (tree_view e.1) rest)
points_push [] e rest = refl
points_push (d ∷ xs) e rest = ap (branch (string_bytes d.0) (tree_view d.1)) (points_push xs e rest)

-- the points that are left begin with the next
pub points_left : (items : List (String Global × Tree)) (i : ℕ) (d : String Global × Tree) → i < length items → d ≡ get_or items i d
    → points_view (drop i items) ≡ branch (string_bytes d.0) (tree_view d.1) (points_view (drop (i + 1) items))
points_left items i d h same = ap points_view (drop_more items i d h) ∙ ap (λ x. points_view (x ∷ drop (i + 1) items)) (sym same)

pub points_copied : (xs items : List (String Global × Tree)) (i : ℕ) (d : String Global × Tree) (k : String Global) (t : Tree) → i < length items → d ≡ get_or items i d
    → string_bytes k ≡ string_bytes d.0 → tree_view t ≡ tree_view d.1
    → then_branches (points_view (xs ++ (k, t) ∷ [])) (points_view (drop (i + 1) items)) ≡ then_branches (points_view xs) (points_view (drop i items))
points_copied xs items i d k t h same key part =
    points_push xs (k, t) (points_view (drop (i + 1) items))
    ∙ ap (λ j. then_branches (points_view xs) (branch j (tree_view t) (points_view (drop (i + 1) items)))) key
    ∙ ap (λ z. then_branches (points_view xs) (branch (string_bytes d.0) z (points_view (drop (i + 1) items)))) part
    ∙ sym (ap (then_branches (points_view xs)) (points_left items i d h same))

-- a point more, of the next text and the next part
pub point_step : (xs next : List (String Global × Tree)) (text : String Global) (t : Tree) (texts texts_rest : List (String Global)) (parts parts_rest : List Tree) (whole : Branches) → next ≡ xs ++ (text, t) ∷ []
    → texts ≡ text ∷ texts_rest → parts ≡ t ∷ parts_rest → then_branches (points_view xs) (keyed_branches (map string_bytes texts) (map tree_view parts)) ≡ whole
    → then_branches (points_view next) (keyed_branches (map string_bytes texts_rest) (map tree_view parts_rest)) ≡ whole
point_step xs next text t texts texts_rest parts parts_rest whole n e s h =
    ap (λ z. then_branches (points_view z) (keyed_branches (map string_bytes texts_rest) (map tree_view parts_rest))) n
    ∙ points_push xs (text, t) (keyed_branches (map string_bytes texts_rest) (map tree_view parts_rest))
    ∙ sym (λ i. then_branches (points_view xs) (keyed_branches (map string_bytes (e i)) (map tree_view (s i)))) ∙ h

pub points_end : (xs : List (String Global × Tree)) (texts : List (String Global)) (parts : List Tree) (whole : Branches) → length texts ≡ 0 → length texts ≡ length parts
    → then_branches (points_view xs) (keyed_branches (map string_bytes texts) (map tree_view parts)) ≡ whole → points_view xs ≡ whole
points_end xs [] [] whole e n h = sym (then_none (points_view xs)) ∙ h
points_end xs [] (p ∷ parts) whole e n h = absurd (omega (arith, n))
points_end xs (t ∷ texts) parts whole e n h = absurd (omega (arith, e))
