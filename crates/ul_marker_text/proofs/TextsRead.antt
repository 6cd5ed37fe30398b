-- What is read of a tree's text is the tree.
use Rattle.std.proofs.Common.{◌≡◌, ◌≢◌, ℕ, List, [], map, true, false, refl, ap, sym, ◌∙◌, subst, Some, None, Result, Ok, Err}
use Rattle.std.specs.Prelude.{Vec, IfOk, codes}
use Rattle.std.specs.declared.alloc.Global.{Global}
use Rattle.std.specs.Str.{bytes_eq}
use Rattle.std.proofs.lemmas.Slice.Eq.{bytes_eq-Decides}
use Rattle.ul_comparison.specs.Formulas.{Formula}
use Rattle.ul_comparison.specs.Printed.{comparison_formula}
use Rattle.ul_marker.specs.PrintedPaths.{paths_formula}
use Rattle.ul_marker.specs.Reading.{printed_marker_of}
use Rattle.ul_marker.specs.declared.printed.Comparison.{Comparison}
use Rattle.ul_tree.specs.Fans.{fan_of, tree_of}
use Rattle.ul_tree.specs.FirstParts.{is_false}
use Rattle.ul_tree.specs.PathList.{paths_to_true}
use Rattle.ul_nodes.specs.Plain.{Plain, truth, node}
use Rattle.ul_nodes.specs.Reduced.{IsReduced}
use Rattle.ul_tree.proofs.ForCallers.{tree_back, bytes_self}
use Rattle.ul_marker_text.specs.Headline.{IsNoTruth}
use Rattle.ul_marker_text.specs.MarkerOfText.{is_readable}
use Rattle.ul_marker_text.specs.MarkerText.{marker_text, printed_path, printed_paths}
use Rattle.ul_marker_text.specs.Rows.{conjuncts, disjuncts, IsNoRows}
use Rattle.ul_marker_text.specs.RowViews.{rows_view}
use Rattle.ul_marker_text.specs.StepViews.{rows_steps, rows_tree}
use Rattle.ul_marker_text.specs.TextFacts.{AreWithin, IsNodeText}
use Rattle.ul_marker_text.proofs.Goods.{tree_good}
use Rattle.ul_marker_text.proofs.Levels.{readable_within, within_readable}
use Rattle.ul_marker_text.proofs.RowsBack.{rows_back, rows_are}
use Rattle.ul_marker_text.proofs.SaidTruths.{node_reads}
use Rattle.ul_marker_text.proofs.TreeTexts.{node_paths, printed_all, paths_some}

-- a tree's text is read as what its paths say
text_formula : (spelled : List ℕ) (t : Plain) → IsNodeText spelled t → printed_marker_of spelled ≡ Some (paths_formula (printed_paths t))
text_formula spelled (truth b) h = absurd (h.no_truth b refl)
text_formula spelled (node l d bs) h = ap printed_marker_of (sym h.spelled) ∙ node_reads l d bs h.reduced

pub no_formula : (spelled : List ℕ) (t : Plain) → IsNodeText spelled t → printed_marker_of spelled ≡ None → ⊥
no_formula spelled t h e = let p : None ≡ Some (paths_formula (printed_paths t)) = sym e ∙ text_formula spelled t h in cc

formula_is : (spelled : List ℕ) (t : Plain) (f : Formula) → IsNodeText spelled t → printed_marker_of spelled ≡ Some f → f ≡ paths_formula (printed_paths t)
formula_is spelled t f h e = let p : Some f ≡ Some (paths_formula (printed_paths t)) = sym e ∙ text_formula spelled t h in cc

pub no_rows : (spelled : List ℕ) (t : Plain) (f : Formula) → IsNodeText spelled t → printed_marker_of spelled ≡ Some f → IsNoRows f → ⊥
no_rows spelled (truth b) f h e none = absurd (h.no_truth b refl)
no_rows spelled (node l d bs) f h e none =
    let t = node l d bs in
    let n = node_paths l d bs h.reduced in
    none (printed_paths t) (paths_some (paths_to_true t) n.some) (printed_all (paths_to_true t) n.rows) (sym (formula_is spelled t f h e))

-- the rows of a marker are these comparisons
abbrev pub AreRows : List (Vec Comparison Global) → Formula → Type 0
AreRows rows f = rows_view rows ≡ map conjuncts (disjuncts f)

-- the steps of the rows are the tree's paths
rows_paths : (spelled : List ℕ) (t : Plain) (f : Formula) (rows : List (Vec Comparison Global)) → IsNodeText spelled t → printed_marker_of spelled ≡ Some f → AreRows rows f → rows_steps rows ≡ paths_to_true t
rows_paths spelled (truth b) f rows h e r = absurd (h.no_truth b refl)
rows_paths spelled (node l d bs) f rows h e r =
    let t = node l d bs in
    let n = node_paths l d bs h.reduced in
    let view : rows_view rows ≡ map (map comparison_formula) (map printed_path (paths_to_true t)) =
    r ∙ ap (λ z. map conjuncts (disjuncts z)) (formula_is spelled t f h e) ∙ rows_back (printed_paths t) (paths_some (paths_to_true t) n.some) in
    rows_are rows (paths_to_true t) (tree_good t [] h.reduced) n.rows view

-- the tree of the rows is the tree
pub rows_tree_is : (spelled : List ℕ) (t : Plain) (f : Formula) (rows : List (Vec Comparison Global)) → IsNodeText spelled t → printed_marker_of spelled ≡ Some f → AreRows rows f → rows_tree rows ≡ t
rows_tree_is spelled t f rows h e r = ap (λ z. tree_of (fan_of z)) (rows_paths spelled t f rows h e r) ∙ tree_back t [] h.reduced

-- the tree is one that is read where each row has few steps, and there alone
pub rows_readable : (spelled : List ℕ) (t : Plain) (f : Formula) (rows : List (Vec Comparison Global)) → IsNodeText spelled t → printed_marker_of spelled ≡ Some f → AreRows rows f → AreWithin 512 (rows_steps rows) → is_readable t ≡ true
rows_readable spelled t f rows h e r w = within_readable t [] h.reduced (subst (λ z. AreWithin 512 z) (rows_paths spelled t f rows h e r) w)

pub readable_rows : (spelled : List ℕ) (t : Plain) (f : Formula) (rows : List (Vec Comparison Global)) → IsNodeText spelled t → printed_marker_of spelled ≡ Some f → AreRows rows f → is_readable t ≡ true → AreWithin 512 (rows_steps rows)
readable_rows spelled t f rows h e r is = subst (λ z. AreWithin 512 z) (sym (rows_paths spelled t f rows h e r)) (readable_within t is)

-- what is found by two facts of it
pub found_by : {X F : Type 0} (result : Result X F) (A B C : X → Type 0) → ((x : X) → A x → B x → C x) → IfOk result A → IfOk result B → IfOk result C
found_by (Ok x) A B C f a b = f x a b
found_by (Err e) A B C f a b = tt

-- ---- whole texts

star_text : marker_text (truth true) ≡ codes "*"
unfolding marker_text
star_text = refl

pub star_is : (spelled : List ℕ) → true ≡ bytes_eq spelled (codes "*") → marker_text (truth true) ≡ spelled
star_is spelled e = star_text ∙ sym ((bytes_eq-Decides spelled (codes "*")).0 (sym e))

-- a text that isn't `*` is no truth's
pub node_text_of : (spelled : List ℕ) (t : Plain) → false ≡ bytes_eq spelled (codes "*") → IsReduced t → t ≢ truth false → marker_text t ≡ spelled → IsNodeText spelled t
node_text_of spelled t n h f e = record { reduced = h; no_truth = other; spelled = e }
  where
    other : IsNoTruth t
    other false q = f q
    other true q =
        let p : false ≡ true = n ∙ ap (λ z. bytes_eq z (codes "*")) (sym e ∙ ap marker_text q ∙ star_text) in cc

pub false_is : (t : Plain) → true ≡ is_false t → t ≡ truth false
false_is (truth true) e = absurd cc
false_is (truth false) e = refl
false_is (node l d bs) e = absurd cc

pub texts_differ : (a b : List ℕ) → false ≡ bytes_eq a b → a ≡ b → ⊥
texts_differ a b e q = let p : false ≡ true = e ∙ ap (λ z. bytes_eq z b) q ∙ bytes_self b in cc
