-- The rows of a marker whose text joins printed paths are the paths.
use Rattle.std.proofs.Common.{◌≡◌, ◌≢◌, ℕ, zero, suc, ◌<◌, List, [], ◌∷◌, map, length, get_or, Bool, true, false, refl, ap, sym, ◌∙◌, arith, rules}
use Rattle.std.specs.Prelude.{All, Vec}
use Rattle.std.specs.declared.alloc.Global.{Global}
use Rattle.std.proofs.lemmas.List.{length-map}
use Rattle.std.proofs.lemmas.List.Elements.{All-head, All-tail}
use Rattle.ul_specifier.specs.declared.clause.Op.{Op}
use Rattle.ul_specifier.specs.declared.clause.Op.TheVariants.{AtLeast}
use Rattle.ul_comparison.specs.Formulas.{Formula, extra, python, python_list, text, opaque, all, any, formulas_of}
use Rattle.ul_comparison.specs.Printed as Printed
use Rattle.ul_comparison.specs.Printed.{IsComparison, comparison_formula}
use Rattle.ul_marker.specs.PrintedPaths.{IsPath, path_formula, paths_formula}
use Rattle.ul_marker.specs.PrintedViews.{IsNoComparison}
use Rattle.ul_marker.specs.Views.{marker_view, markers_view}
use Rattle.ul_marker.specs.declared.marker.Marker.{Marker, All as Joined, Any as Chosen, the_lemmas}
use Rattle.ul_marker.specs.declared.printed.Comparison.{Comparison}
use Rattle.ul_tree.specs.Comparisons as Plain
use Rattle.ul_tree.specs.Comparisons.{path_comparisons}
use Rattle.ul_nodes.specs.Levels.{extra_level, text_level, atom_level}
use Rattle.ul_tree.specs.PathList.{Step}
use Rattle.ul_tree.specs.Pieces.{packed_number}
use Rattle.ul_tree.proofs.ForCallers.{Each}
use Rattle.ul_marker_text.specs.MarkerText.{printed_form, printed_path}
use Rattle.ul_marker_text.specs.Rows.{formula_list, disjuncts, conjuncts, IsNoRow, IsNoRows, comparison_asked, has_key_comparison, bound_comparison, steps_of}
use Rattle.ul_marker_text.specs.RowViews.{rows_view, NoPathIn}
use Rattle.ul_marker_text.specs.StepViews.{said, plain_comparison, row_view, rows_steps}
use Rattle.ul_marker_text.proofs.Goods.{Goods, Good}
use Rattle.ul_marker_text.proofs.Placed.{GoodComparison, placed_back}
use Rattle.ul_marker_text.proofs.StepsBack.{GoodRow, steps_back}

-- ---- formulas that are joined

pub listed_back : (fs : List Formula) → formula_list (formulas_of fs) ≡ fs
listed_back [] = refl
listed_back (f ∷ fs) = ap (λ z. f ∷ z) (listed_back fs)

one_conjunct : (c : Printed.Comparison) → conjuncts (comparison_formula c) ≡ comparison_formula c ∷ []
one_conjunct (Printed.bound lower major minor patch) = refl
one_conjunct (Printed.extra_is literal equal) = refl
one_conjunct (Printed.text_is variable literal equal) = refl
one_conjunct (Printed.atom_is atom holds) = refl

one_disjunct : (c : Printed.Comparison) → disjuncts (comparison_formula c) ≡ comparison_formula c ∷ []
one_disjunct (Printed.bound lower major minor patch) = refl
one_disjunct (Printed.extra_is literal equal) = refl
one_disjunct (Printed.text_is variable literal equal) = refl
one_disjunct (Printed.atom_is atom holds) = refl

pub conjuncts_back : (path : List Printed.Comparison) → conjuncts (path_formula path) ≡ map comparison_formula path
conjuncts_back [] = refl
conjuncts_back (c ∷ []) = one_conjunct c
conjuncts_back (c ∷ d ∷ path) = listed_back (map comparison_formula (c ∷ d ∷ path))

path_disjunct : (path : List Printed.Comparison) → disjuncts (path_formula path) ≡ path_formula path ∷ []
path_disjunct [] = refl
path_disjunct (c ∷ []) = one_disjunct c
path_disjunct (c ∷ d ∷ path) = refl

disjuncts_back : (paths : List (List Printed.Comparison)) → 0 < length paths → disjuncts (paths_formula paths) ≡ map path_formula paths
disjuncts_back [] h = absurd (omega arith)
disjuncts_back (p ∷ []) h = path_disjunct p
disjuncts_back (p ∷ q ∷ paths) h = listed_back (map path_formula (p ∷ q ∷ paths))

each_conjuncts : (paths : List (List Printed.Comparison)) → map conjuncts (map path_formula paths) ≡ map (map comparison_formula) paths
each_conjuncts [] = refl
each_conjuncts (p ∷ paths) = ap (λ z. z ∷ map conjuncts (map path_formula paths)) (conjuncts_back p) ∙ ap (λ z. map comparison_formula p ∷ z) (each_conjuncts paths)

-- the rows of joined paths
pub rows_back : (paths : List (List Printed.Comparison)) → 0 < length paths → map conjuncts (disjuncts (paths_formula paths)) ≡ map (map comparison_formula) paths
rows_back paths h = ap (map conjuncts) (disjuncts_back paths h) ∙ each_conjuncts paths

-- ---- refusals

-- a marker that no comparison says
pub no_row_with : (cs : List Printed.Comparison) (parts : List Marker) (i : ℕ) (d : Marker) → i < length parts → IsNoComparison (marker_view (get_or parts i d)) → All IsComparison cs → map comparison_formula cs ≢ map marker_view parts
no_row_with cs [] i d h wrong is e = absurd (omega arith)
no_row_with [] (m ∷ parts) i d h wrong is e = absurd cc
no_row_with (c ∷ cs) (m ∷ parts) zero d h wrong is e = wrong c (All-head IsComparison c cs is) cc
no_row_with (c ∷ cs) (m ∷ parts) (suc i) d h wrong is e =
    let rest : map comparison_formula cs ≡ map marker_view parts = cc in no_row_with cs parts i d (omega arith) wrong (All-tail IsComparison c cs is) rest

-- a marker that no path says
pub no_path_with : (paths : List (List Printed.Comparison)) (parts : List Marker) (i : ℕ) (d : Marker) → i < length parts → IsNoRow (conjuncts (marker_view (get_or parts i d))) → All IsPath paths → map path_formula paths ≢ map marker_view parts
no_path_with paths [] i d h wrong is e = absurd (omega arith)
no_path_with [] (m ∷ parts) i d h wrong is e = absurd cc
no_path_with (p ∷ paths) (m ∷ parts) zero d h wrong is e =
    let first : path_formula p ≡ marker_view m = cc in
    wrong p (All-head IsPath p paths is).1 (sym (conjuncts_back p) ∙ ap conjuncts first)
no_path_with (p ∷ paths) (m ∷ parts) (suc i) d h wrong is e =
    let rest : map path_formula paths ≡ map marker_view parts = cc in no_path_with paths parts i d (omega arith) wrong (All-tail IsPath p paths is) rest

-- one comparison that none says
pub no_single : (f : Formula) → IsNoComparison f → IsNoRow (f ∷ [])
no_single f wrong [] is e = absurd cc
no_single f wrong (c ∷ cs) is e = wrong c (All-head IsComparison c cs is) cc

-- paths that none are, where the marker joins its parts by `or`
pub no_rows_any : (f : Formula) (fs : List Formula) → f ≡ any (formulas_of fs) → NoPathIn fs → IsNoRows f
no_rows_any f fs e wrong paths some is q =
    wrong paths is (sym (disjuncts_back paths some) ∙ ap disjuncts (q ∙ e) ∙ listed_back fs)

-- one path that none is
pub no_rows_one : (f : Formula) → disjuncts f ≡ f ∷ [] → IsNoRow (conjuncts f) → IsNoRows f
no_rows_one f e wrong [] some is q = absurd (omega arith)
no_rows_one f e wrong (p ∷ paths) some is q =
    let d : map path_formula (p ∷ paths) ≡ f ∷ [] = sym (disjuncts_back (p ∷ paths) some) ∙ ap disjuncts q ∙ e in
    let first : path_formula p ≡ f = cc in
    wrong p (All-head IsPath p paths is).1 (sym (conjuncts_back p) ∙ ap conjuncts first)

-- ---- what the code's comparisons ask

-- whether an operator is `>=`
is_lower : Op → Bool
is_lower AtLeast = true
is_lower other = false

-- what a formula asks, where it is a printed comparison
asks : Formula → Plain.Comparison
asks (extra literal equal) = has_key_comparison equal extra_level literal
asks (python full clause) =
    bound_comparison (is_lower clause.op) (packed_number (get_or clause.version.release 0 0) (get_or clause.version.release 1 0) (get_or clause.version.release 2 0))
asks (python_list full versions within) = Plain.at_least 0
asks (text variable literal equal) = has_key_comparison equal (text_level variable) literal
asks (opaque atom positive) = has_key_comparison positive (atom_level atom) (1 ∷ [])
asks (all fs) = Plain.at_least 0
asks (any fs) = Plain.at_least 0

asks_placed : (c : Printed.Comparison) → asks (comparison_formula c) ≡ comparison_asked c
unfolding asks is_lower
asks_placed (Printed.bound true major minor patch) = refl
asks_placed (Printed.bound false major minor patch) = refl
asks_placed (Printed.extra_is literal equal) = refl
asks_placed (Printed.text_is variable literal equal) = refl
asks_placed (Printed.atom_is atom holds) = refl

asked_is : (x : Comparison) (c : Plain.Comparison) → GoodComparison c → said x ≡ comparison_formula (printed_form c) → plain_comparison x ≡ c
asked_is x c g e = sym (asks_placed _) ∙ ap asks e ∙ asks_placed (printed_form c) ∙ placed_back c g

asked_row : (xs : List Comparison) (cs : List Plain.Comparison) → Each GoodComparison cs → map said xs ≡ map comparison_formula (map printed_form cs) → row_view xs ≡ cs
asked_row [] [] g e = refl
asked_row [] (c ∷ cs) g e = absurd cc
asked_row (x ∷ xs) [] g e = absurd cc
asked_row (x ∷ xs) (c ∷ cs) g e =
    let first : said x ≡ comparison_formula (printed_form c) = cc in
    let rest : map said xs ≡ map comparison_formula (map printed_form cs) = cc in
    ap (λ z. z ∷ row_view xs) (asked_is x c g.0 first) ∙ ap (λ z. c ∷ z) (asked_row xs cs g.1 rest)

row_steps : (xs : List Comparison) (p : List Step) → Good [] p → Each GoodComparison (path_comparisons p) → map said xs ≡ map comparison_formula (printed_path p) → steps_of (length xs) (row_view xs) ≡ p
row_steps xs p h g e =
    let same = asked_row xs (path_comparisons p) g e in
    let count : length (path_comparisons p) ≡ length xs = ap length (sym same) ∙ length-map xs plain_comparison in
    ap (steps_of (length xs)) same ∙ steps_back p [] (length xs) h (omega (arith, count))

-- the steps of the code's rows are the paths that they were printed of
pub rows_are : (rows : List (Vec Comparison Global)) (ps : List (List Step)) → Goods [] ps → Each (λ p. GoodRow (path_comparisons p)) ps
    → rows_view rows ≡ map (map comparison_formula) (map printed_path ps) → rows_steps rows ≡ ps
rows_are [] [] h g e = refl
rows_are [] (p ∷ ps) h g e = absurd cc
rows_are (r ∷ rows) [] h g e = absurd cc
rows_are (r ∷ rows) (p ∷ ps) h g e =
    let first : map said r.items ≡ map comparison_formula (printed_path p) = cc in
    let rest : rows_view rows ≡ map (map comparison_formula) (map printed_path ps) = cc in
    ap (λ z. z ∷ rows_steps rows) (row_steps r.items p h.0 (g.0).1 first) ∙ ap (λ z. p ∷ z) (rows_are rows ps h.1 g.1 rest)

-- ---- parts of markers

marker_all : (parts : Vec Marker Global) → marker_view (Joined parts) ≡ all (markers_view parts.items)
marker_all parts = search (rules, the_lemmas)

marker_any : (parts : Vec Marker Global) → marker_view (Chosen parts) ≡ any (markers_view parts.items)
marker_any parts = search (rules, the_lemmas)

pub all_parts : (m : Marker) (parts : Vec Marker Global) → m ≡ Joined parts → map marker_view parts.items ≡ conjuncts (marker_view m)
all_parts m parts e = sym (listed_back (map marker_view parts.items)) ∙ ap conjuncts (sym (marker_all parts)) ∙ ap (λ z. conjuncts (marker_view z)) (sym e)

pub any_parts : (m : Marker) (parts : Vec Marker Global) → m ≡ Chosen parts → map marker_view parts.items ≡ disjuncts (marker_view m)
any_parts m parts e = sym (listed_back (map marker_view parts.items)) ∙ ap disjuncts (sym (marker_any parts)) ∙ ap (λ z. disjuncts (marker_view z)) (sym e)

pub any_is : (m : Marker) (parts : Vec Marker Global) → m ≡ Chosen parts → marker_view m ≡ any (formulas_of (map marker_view parts.items))
any_is m parts e = ap marker_view e ∙ marker_any parts
