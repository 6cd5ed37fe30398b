-- The text of a reduced tree, as its paths are printed.
use Rattle.std.proofs.Common.{◌≡◌, ℕ, ◌<◌, ◌^◌, List, [], ◌∷◌, ◌++◌, map, length, Bool, true, false, refl, ap, sym, ◌∙◌, subst, arith, append_assoc, append-nil, if◌then◌else◌}
use Rattle.std.specs.Prelude.{All, codes}
use Rattle.std.specs.List.{flat_map}
use Rattle.std.proofs.lemmas.List.Elements.{All-cons, All-nil}
use Rattle.ul_comparison.specs.Printed as Printed
use Rattle.ul_comparison.specs.Printed.{IsComparison, comparison_text, atom_text, quoted_text, sides, kind_sign, variable_name}
use Rattle.ul_marker.specs.PrintedPaths.{IsPath, path_text, paths_text}
use Rattle.ul_comparison.specs.declared.variable.AtomKind.{AtomKind}
use Rattle.ul_comparison.specs.declared.variable.AtomKind.TheVariants.{Contains, Within, Below, AtMost, Same}
use Rattle.ul_comparison.specs.declared.variable.Variable.{Variable}
use Rattle.ul_comparison.specs.declared.variable.Variable.TheVariants.{OsName, SysPlatform, PlatformMachine, PlatformPythonImplementation, PlatformRelease, PlatformSystem, PlatformVersion, PythonVersion, PythonFullVersion, ImplementationName, ImplementationVersion, Extras}
use Rattle.ul_nodes.specs.Apply.{keys, leaf_truth}
use Rattle.ul_tree.specs.Comparisons.{Comparison, path_comparisons}
use Rattle.ul_tree.specs.Fans.{fan_of, tree_of}
use Rattle.ul_tree.specs.PathList.{Step, interval, point, others, start_of, longer_paths, paths_to_true, paths_from, paths_at}
use Rattle.ul_nodes.specs.Plain.{Plain, truth, node, Branches, done, branch, carries}
use Rattle.ul_nodes.specs.Reduced.{IsReduced}
use Rattle.ul_tree.proofs.ForCallers.{Each, tree_back}
use Rattle.ul_marker_text.specs.MarkerText.{marker_text, printed_form, printed_path, printed_paths}
use Rattle.ul_marker_text.specs.Printing.{joined_onto, and_joined, path_behind, paths_behind}
use Rattle.ul_marker_text.proofs.Goods.{Goods, tree_good}
use Rattle.ul_marker_text.proofs.Placed.{GoodComparison, printed_is}
use Rattle.ul_marker_text.proofs.StepsBack.{Filled, GoodRow, path_row}

-- ---- no comparison's text is empty

pub name_filled : (v : Variable) (rest : List ℕ) → Filled (variable_name v ++ rest)
name_filled OsName rest = tt
name_filled SysPlatform rest = tt
name_filled PlatformMachine rest = tt
name_filled PlatformPythonImplementation rest = tt
name_filled PlatformRelease rest = tt
name_filled PlatformSystem rest = tt
name_filled PlatformVersion rest = tt
name_filled PythonVersion rest = tt
name_filled PythonFullVersion rest = tt
name_filled ImplementationName rest = tt
name_filled ImplementationVersion rest = tt
name_filled Extras rest = tt

sides_filled : (kind : AtomKind) (v : Variable) (sign text : List ℕ) → Filled (sides kind (variable_name v) sign (quoted_text text))
sides_filled Contains v sign text = tt
sides_filled Within v sign text = name_filled v (sign ++ quoted_text text)
sides_filled Below v sign text = name_filled v (sign ++ quoted_text text)
sides_filled AtMost v sign text = name_filled v (sign ++ quoted_text text)
sides_filled Same v sign text = name_filled v (sign ++ quoted_text text)

pub text_filled : (c : Printed.Comparison) → Filled (comparison_text c)
unfolding comparison_text atom_text
text_filled (Printed.bound lower major minor patch) = tt
text_filled (Printed.extra_is literal equal) = tt
text_filled (Printed.text_is variable literal equal) = name_filled variable _
text_filled (Printed.atom_is atom holds) = sides_filled atom.kind atom.variable (kind_sign atom.kind holds) atom.literal

-- ---- joined texts

-- each text with the separator in front
abbrev spaced : List ℕ → List (List ℕ) → List ℕ
spaced separator texts = flat_map (λ t. separator ++ t) texts

joined_spaced : (separator before : List ℕ) (texts : List (List ℕ)) → Filled before → joined_onto separator before texts ≡ before ++ spaced separator texts
joined_spaced separator [] texts h = absurd h
joined_spaced separator (b ∷ bs) [] h = sym (append-nil (b ∷ bs))
joined_spaced separator (b ∷ bs) (t ∷ ts) h =
    joined_spaced separator (b ∷ (bs ++ (separator ++ t))) ts tt ∙ append_assoc (b ∷ bs) (separator ++ t) (spaced separator ts)

path_spaced : (c : Comparison) (cs : List Comparison) → path_text (map printed_form (c ∷ cs)) ≡ comparison_text (printed_form c) ++ spaced (codes " and ") (map (λ d. comparison_text (printed_form d)) cs)
path_spaced c [] = sym (append-nil (comparison_text (printed_form c)))
path_spaced c (d ∷ cs) =
    ap (λ z. comparison_text (printed_form c) ++ (codes " and " ++ z)) (path_spaced d cs)
    ∙ ap (λ z. comparison_text (printed_form c) ++ z) (sym (append_assoc (codes " and ") (comparison_text (printed_form d)) (spaced (codes " and ") (map (λ d. comparison_text (printed_form d)) cs))))

-- comparisons joined, as they are printed
row_text : (cs : List Comparison) → and_joined [] cs ≡ path_text (map printed_form cs)
row_text [] = refl
row_text (c ∷ cs) = joined_spaced (codes " and ") (comparison_text (printed_form c)) (map (λ d. comparison_text (printed_form d)) cs) (text_filled (printed_form c)) ∙ sym (path_spaced c cs)

append_filled : (xs ys : List ℕ) → Filled xs → Filled (xs ++ ys)
append_filled [] ys h = absurd h
append_filled (x ∷ xs) ys h = tt

row_filled : (cs : List Comparison) → Filled cs → Filled (path_text (map printed_form cs))
row_filled [] h = absurd h
row_filled (c ∷ cs) h = subst (λ (z : List ℕ). Filled z) (sym (path_spaced c cs)) (append_filled (comparison_text (printed_form c)) (spaced (codes " and ") (map (λ d. comparison_text (printed_form d)) cs)) (text_filled (printed_form c)))

paths_spaced : (p : List Step) (ps : List (List Step)) → paths_text (map printed_path (p ∷ ps)) ≡ path_text (printed_path p) ++ spaced (codes " or ") (map (path_behind []) ps)
paths_spaced p [] = sym (append-nil (path_text (printed_path p)))
paths_spaced p (q ∷ ps) =
    ap (λ z. path_text (printed_path p) ++ (codes " or " ++ z)) (paths_spaced q ps ∙ ap (λ z. z ++ spaced (codes " or ") (map (path_behind []) ps)) (sym (row_text (path_comparisons q))))
    ∙ ap (λ z. path_text (printed_path p) ++ z) (sym (append_assoc (codes " or ") (path_behind [] q) (spaced (codes " or ") (map (path_behind []) ps))))

-- paths joined, as they are printed
rows_text : (p : List Step) (ps : List (List Step)) → Filled (path_comparisons p) → paths_behind [] [] (p ∷ ps) ≡ paths_text (map printed_path (p ∷ ps))
unfolding paths_behind
rows_text p ps h =
    let e = row_text (path_comparisons p) in
    joined_spaced (codes " or ") (path_behind [] p) (map (path_behind []) ps) (subst (λ (z : List ℕ). Filled z) (sym e) (row_filled (path_comparisons p) h))
    ∙ ap (λ z. z ++ spaced (codes " or ") (map (path_behind []) ps)) e
    ∙ sym (paths_spaced p ps)

-- ---- paths of a reduced tree

-- each path has a step
abbrev pub Walked : List (List Step) → Type 0
Walked ps = Each Filled ps

walked_append : (ps qs : List (List Step)) → Walked ps → Walked qs → Walked (ps ++ qs)
walked_append [] qs x y = y
walked_append (p ∷ ps) qs x y = (x.0, walked_append ps qs x.1 y)

walked_led : (s : Step) (ps : List (List Step)) → Walked (longer_paths s ps)
walked_led s [] = tt
walked_led s (p ∷ ps) = (tt, walked_led s ps)

walked_from : (bs : Branches) (start : ℕ) (ps : List (List Step)) → Walked (paths_from start ps bs)
walked_from done start ps = walked_led (interval start (2 ^ 96)) ps
walked_from (branch k c rest) start ps =
    walked_append (longer_paths (interval start (start_of k)) ps) (paths_from (start_of k) (paths_to_true c) rest) (walked_led (interval start (start_of k)) ps) (walked_from rest (start_of k) (paths_to_true c))

walked_at : (bs : Branches) (l : List ℕ) → Walked (paths_at l bs)
walked_at done l = tt
walked_at (branch k c rest) l = walked_append (longer_paths (point l k) (paths_to_true c)) (paths_at l rest) (walked_led (point l k) (paths_to_true c)) (walked_at rest l)

pub walked_node : (l : List ℕ) (d : Plain) (bs : Branches) → Walked (paths_to_true (node l d bs))
walked_node l d bs = go (carries l)
  where
    go : (m : Bool) → Walked (if m then paths_from 0 (paths_to_true d) bs else paths_at l bs ++ longer_paths (others l (keys bs)) (paths_to_true d))
    go true = walked_from bs 0 (paths_to_true d)
    go false = walked_append (paths_at l bs) (longer_paths (others l (keys bs)) (paths_to_true d)) (walked_at bs l) (walked_led (others l (keys bs)) (paths_to_true d))

-- the comparisons of each path are good
pub good_rows : (ps : List (List Step)) (l : List ℕ) → Goods l ps → Walked ps → Each (λ p. GoodRow (path_comparisons p)) ps
good_rows [] l g w = tt
good_rows ([] ∷ ps) l g w = absurd w.0
good_rows ((s ∷ p) ∷ ps) l g w = (path_row s p l g.0, good_rows ps l g.1 w.1)

-- paths that a node has
pub record HasPaths (t : Plain) : Type 0 where
  pub some : Filled (paths_to_true t)
  pub rows : Each (λ p. GoodRow (path_comparisons p)) (paths_to_true t)

pub some_path : (ps : List (List Step)) (l : List ℕ) (d : Plain) (bs : Branches) → tree_of (fan_of ps) ≡ node l d bs → Filled ps
some_path [] l d bs e = absurd cc
some_path (p ∷ ps) l d bs e = tt

pub node_paths : (l : List ℕ) (d : Plain) (bs : Branches) → IsReduced (node l d bs) → HasPaths (node l d bs)
node_paths l d bs h = record {
  some = some_path (paths_to_true (node l d bs)) l d bs (tree_back (node l d bs) [] h);
  rows = good_rows (paths_to_true (node l d bs)) [] (tree_good (node l d bs) [] h) (walked_node l d bs);
}

behind_text : (ps : List (List Step)) → Each (λ p. GoodRow (path_comparisons p)) ps → paths_behind [] [] ps ≡ paths_text (map printed_path ps)
unfolding paths_behind
behind_text [] h = refl
behind_text (p ∷ ps) h = rows_text p ps (h.0).0

-- ---- the whole text

pub star_text : (t : Plain) → leaf_truth t ≡ true → codes "*" ≡ marker_text t
unfolding marker_text
star_text t h = sym (ap (λ b. if b then codes "*" else paths_text (printed_paths t)) h)

-- what is printed of a reduced tree that isn't true is its text
pub printed_text : (t : Plain) (out : List ℕ) → IsReduced t → leaf_truth t ≡ false → out ≡ paths_behind [] [] (paths_to_true t) → out ≡ marker_text t
unfolding marker_text paths_behind
printed_text (truth true) out r h e = absurd cc
printed_text (truth false) out r h e = e
printed_text (node l d bs) out r h e = e ∙ behind_text (paths_to_true (node l d bs)) (node_paths l d bs r).rows

-- ---- paths as they are printed

printed_each : (cs : List Comparison) → Each GoodComparison cs → All IsComparison (map printed_form cs)
printed_each [] h = All-nil IsComparison
printed_each (c ∷ cs) h = All-cons IsComparison (printed_form c) (map printed_form cs) (printed_is c h.0) (printed_each cs h.1)

printed_some : (cs : List Comparison) → Filled cs → 0 < length (map printed_form cs)
printed_some [] h = absurd h
printed_some (c ∷ cs) h = omega arith

pub printed_all : (ps : List (List Step)) → Each (λ p. GoodRow (path_comparisons p)) ps → All IsPath (map printed_path ps)
printed_all [] h = All-nil IsPath
printed_all (p ∷ ps) h =
    All-cons IsPath (printed_path p) (map printed_path ps) (printed_some (path_comparisons p) (h.0).0, printed_each (path_comparisons p) (h.0).1) (printed_all ps h.1)

pub paths_some : (ps : List (List Step)) → Filled ps → 0 < length (map printed_path ps)
paths_some [] h = absurd h
paths_some (p ∷ ps) h = omega arith
