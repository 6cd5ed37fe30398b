-- The tree of a text that is read as a marker.
use Rattle.std.proofs.Common.{◌≡◌, ◌≢◌, ℕ, zero, suc, ◌<◌, ◌^◌, List, [], ◌∷◌, map, Bool, true, false, not, ◌&&◌, ◌||◌, eqb, refl, ap, sym, ◌∙◌, subst, arith, Less, Equal, Greater, Ordering, Option, Some, None, inl, inr, if◌then◌else◌}
use Rattle.std.specs.Prelude.{codes, nat_lt, slice_index}
use Rattle.std.specs.List.{list_all}
use Rattle.std.specs.Ordering.{is_eq}
use Rattle.std.specs.Str.{bytes_eq}
use Rattle.std.proofs.lemmas.Bool.{eqb-true, lt-ltb, ltb-true}
use Rattle.std.proofs.lemmas.Map.Text.{is_eq-slice_cmp}
use Rattle.std.proofs.lemmas.Slice.Eq.{bytes_eq-Decides}
use Rattle.ul_base.specs.Names.{is_name, name_of, normal_form}
use Rattle.ul_version.specs.Reading.{◌>>=◌}
use Rattle.ul_specifier.specs.declared.clause.Op.{Op}
use Rattle.ul_specifier.specs.declared.clause.Op.TheVariants.{Equal as Eq, Unequal, AtLeast, AtMost, More, Less as Lt, Compatible, Distinct}
use Rattle.ul_comparison.specs.Formulas.{Formula, Formulas, extra, python, python_list, text, opaque, all, any, none, more, formulas_of, IsFormula, AreFormulas, IsExtraLiteral}
use Rattle.ul_comparison.specs.Printed.{comparison_formula}
use Rattle.ul_marker.specs.PrintedPaths.{path_formula, paths_formula}
use Rattle.ul_marker.specs.Reading.{printed_marker_of}
use Rattle.ul_marker.specs.Words.{tokens_of, tokens_in, front_token, front_word, word_token}
use Rattle.ul_marker.proofs.ForCallers.{printed-formula}
use Rattle.ul_comparison.specs.Truth.{is_empty, as_asked, marker_holds}
use Rattle.ul_comparison.specs.Worlds.{WorldFields}
use Rattle.ul_nodes.specs.Apply.{both, either}
use Rattle.ul_tree.specs.Comparisons.{Comparison, at_least, below, equals, differs, path_comparisons}
use Rattle.ul_tree.specs.Leaves.{point_tree}
use Rattle.ul_nodes.specs.Levels.{IsExtra, IsKey, extra_level, python_level}
use Rattle.ul_tree.specs.PathList.{Step, paths_to_true}
use Rattle.ul_tree.specs.PathTruth.{is_before, comparison_holds, path_holds, some_path_holds}
use Rattle.ul_tree.specs.Pieces.{packed_number}
use Rattle.ul_nodes.specs.Plain.{Plain, truth, node, Branches, text_cmp, carries, by_order, holds_of}
use Rattle.ul_nodes.specs.Reduced.{IsReduced}
use Rattle.ul_tree.specs.Sample.{asks_extra}
use Rattle.ul_tree.specs.Values.{value_of, tree_holds}
use Rattle.ul_tree.proofs.ForCallers.{Each, operations, one_truth_one_tree, extra_reduced, text_reduced, opaque_reduced, bytes_self, paths_truth, number_back, level_back}
use Rattle.ul_marker_text.specs.Headline.{IsNoTruth, MarkerTexts}
use Rattle.ul_marker_text.specs.MarkerOfText.{bound_tree, clause_tree, extra_tree, formula_tree, tree_of_all, tree_of_any, is_region, is_readable, tree_with_text, marker_of_text, IsMarker}
use Rattle.ul_marker_text.specs.MarkerText.{marker_text, printed_form, printed_path, printed_paths, key_comparison}
use Rattle.ul_marker_text.proofs.Placed.{GoodComparison, variable_place}
use Rattle.ul_marker_text.proofs.StepsBack.{GoodRow}
use Rattle.ul_marker_text.proofs.TreeTexts.{node_paths}
use Rattle.ul_marker_text.proofs.SaidTruths.{node_reads, text_reads, extra_may}

-- ---- trees of formulas are reduced

bound_reduced : (lower : Bool) (n : ℕ) → IsReduced (bound_tree lower n)
bound_reduced lower n = go (eqb n 0) (nat_lt n (2 ^ 96)) refl refl
  where
    apart : (b : Bool) → truth b ≡ truth (not b) → ⊥
    apart true e = cc
    apart false e = cc

    go : (a b : Bool) → eqb n 0 ≡ a → nat_lt n (2 ^ 96) ≡ b → IsReduced (if a then truth lower else (if b then point_tree python_level (n ∷ []) lower else truth (not lower)))
    go true b e f = tt
    go false true e f =
        let low : n < 2 ^ 96 = ltb-true n (2 ^ 96) f in
        let some : n ≢ 0 = λ q. let p : false ≡ true = sym e ∙ ap (λ z. eqb z 0) q in cc in
        (refl, tt, tt, ((n, refl, omega arith, low), tt, tt, apart lower, tt))
    go false false e f = tt

clause_reduced : (op : Op) (release : List ℕ) → IsReduced (clause_tree op release)
clause_reduced Eq release = tt
clause_reduced Unequal release = tt
clause_reduced AtLeast release = bound_reduced true (packed_number (slice_index release 0) (slice_index release 1) (slice_index release 2))
clause_reduced AtMost release = tt
clause_reduced More release = tt
clause_reduced Lt release = bound_reduced false (packed_number (slice_index release 0) (slice_index release 1) (slice_index release 2))
clause_reduced Compatible release = tt
clause_reduced Distinct release = tt

reads_itself : (k : List ℕ) → is_name k ≡ true → name_of k ≡ Some (normal_form k)
unfolding name_of
reads_itself k h = rw h refl

extra_key : (k : List ℕ) → IsExtraLiteral k → (is_empty k || is_name k) ≡ true → IsExtra k
extra_key [] is h = inl refl
extra_key (b ∷ bs) is h = let e = reads_itself (b ∷ bs) h in inr (e ∙ ap (λ (t : List ℕ). Some t) (is.1 (normal_form (b ∷ bs)) e))

extra_tree_reduced : (k : List ℕ) (equal : Bool) → IsExtraLiteral k → IsReduced (extra_tree k equal)
extra_tree_reduced k equal is = go (is_empty k || is_name k) refl
  where
    go : (b : Bool) → (is_empty k || is_name k) ≡ b → IsReduced (if b then point_tree extra_level k equal else truth (not equal))
    go true e = extra_reduced k equal (extra_key k is e)
    go false e = tt

mutual
  pub formula_reduced : (f : Formula) → IsFormula f → IsReduced (formula_tree f)
  formula_reduced (extra literal equal) h = extra_tree_reduced literal equal h
  formula_reduced (python full clause) h = clause_reduced clause.op clause.version.release
  formula_reduced (python_list full versions within) h = tt
  formula_reduced (text variable literal equal) h = text_reduced variable literal equal h.0 h.1
  formula_reduced (opaque atom positive) h = opaque_reduced atom positive h
  formula_reduced (all fs) h = all_reduced fs h
  formula_reduced (any fs) h = any_reduced fs h

  all_reduced : (fs : Formulas) → AreFormulas fs → IsReduced (tree_of_all fs)
  all_reduced none h = tt
  all_reduced (more f fs) h = operations.join_reduced both (formula_tree f) (tree_of_all fs) (formula_reduced f h.0) (all_reduced fs h.1)

  any_reduced : (fs : Formulas) → AreFormulas fs → IsReduced (tree_of_any fs)
  any_reduced none h = tt
  any_reduced (more f fs) h = operations.join_reduced either (formula_tree f) (tree_of_any fs) (formula_reduced f h.0) (any_reduced fs h.1)

-- ---- trees of printed comparisons have their truth

bound_is : (lower : Bool) (n : ℕ) → 0 < n → n < 2 ^ 96 → bound_tree lower n ≡ point_tree python_level (n ∷ []) lower
bound_is lower n some low = go (eqb n 0) (nat_lt n (2 ^ 96)) refl (lt-ltb n (2 ^ 96) low)
  where
    go : (a b : Bool) → eqb n 0 ≡ a → b ≡ true → (if a then truth lower else (if b then point_tree python_level (n ∷ []) lower else truth (not lower))) ≡ point_tree python_level (n ∷ []) lower
    go true b e f = let p : n ≡ 0 = eqb-true n 0 e in absurd (omega arith)
    go false true e f = refl
    go false false e f = absurd cc

key_truth : (o : Ordering) (asked : Bool) → by_order o (not asked) asked (not asked) ≡ as_asked asked (is_eq o)
key_truth Less true = refl
key_truth Less false = refl
key_truth Equal true = refl
key_truth Equal false = refl
key_truth Greater true = refl
key_truth Greater false = refl

pointed_truth : (l k : List ℕ) (asked : Bool) (f : List ℕ → List ℕ) → carries l ≡ false → holds_of (point_tree l k asked) f ≡ as_asked asked (bytes_eq (f l) k)
pointed_truth l k asked f e = rw e (key_truth (text_cmp (f l) k) asked ∙ ap (as_asked asked) (is_eq-slice_cmp (f l) k))

below_truth : (o : Ordering) → by_order o true false false ≡ is_before o
below_truth Less = refl
below_truth Equal = refl
below_truth Greater = refl

lower_truth : (o : Ordering) → by_order o false true true ≡ not (is_before o)
lower_truth Less = refl
lower_truth Equal = refl
lower_truth Greater = refl

key_tree : (equal : Bool) (l k : List ℕ) → carries l ≡ false → IsKey l k → formula_tree (comparison_formula (key_comparison equal l k)) ≡ point_tree l k equal
key_tree equal [] k m h = absurd h
key_tree equal (zero ∷ []) k m h = ap (λ b. if b then point_tree extra_level k equal else truth (not equal)) (extra_may k h)
key_tree equal (suc zero ∷ []) k m h = let q : true ≡ false = m in absurd cc
key_tree equal (suc (suc i) ∷ []) k m h = ap (λ n. point_tree (suc (suc n) ∷ []) k equal) (variable_place i h.0)
key_tree equal (a ∷ b ∷ rest) k m h =
    ap (λ l. point_tree l (1 ∷ []) equal) (level_back (a ∷ b ∷ rest) h.0) ∙ ap (λ z. point_tree (a ∷ b ∷ rest) z equal) (sym h.1)

-- the tree of what a printed comparison says
comparison_tree : (c : Comparison) (w : WorldFields) (x : List ℕ) → GoodComparison c → tree_holds (formula_tree (comparison_formula (printed_form c))) w x ≡ comparison_holds (value_of w x) c
comparison_tree (at_least n) w x g =
    ap (λ z. tree_holds (bound_tree true z) w x) (number_back n g.1) ∙ ap (λ t. tree_holds t w x) (bound_is true n g.0 g.1) ∙ lower_truth (text_cmp (value_of w x python_level) (n ∷ []))
comparison_tree (below n) w x g =
    ap (λ z. tree_holds (bound_tree false z) w x) (number_back n g.1) ∙ ap (λ t. tree_holds t w x) (bound_is false n g.0 g.1) ∙ below_truth (text_cmp (value_of w x python_level) (n ∷ []))
comparison_tree (equals l k) w x g = ap (λ t. tree_holds t w x) (key_tree true l k g.0 g.1) ∙ pointed_truth l k true (value_of w x) g.0
comparison_tree (differs l k) w x g = ap (λ t. tree_holds t w x) (key_tree false l k g.0 g.1) ∙ pointed_truth l k false (value_of w x) g.0

both_and : (a b : Bool) → both a b ≡ (a && b)
both_and true b = refl
both_and false b = refl

either_or : (a b : Bool) → either a b ≡ (a || b)
either_or true b = refl
either_or false b = refl

and_true : (b : Bool) → b ≡ (b && true)
and_true true = refl
and_true false = refl

or_false : (b : Bool) → b ≡ (b || false)
or_false true = refl
or_false false = refl

all_truth : (cs : List Comparison) (w : WorldFields) (x : List ℕ) → AreFormulas (formulas_of (map comparison_formula (map printed_form cs))) → Each GoodComparison cs
    → tree_holds (tree_of_all (formulas_of (map comparison_formula (map printed_form cs)))) w x ≡ list_all (comparison_holds (value_of w x)) cs
all_truth [] w x h g = refl
all_truth (c ∷ cs) w x h g =
    let f = comparison_formula (printed_form c) in
    let fs = formulas_of (map comparison_formula (map printed_form cs)) in
    operations.join_truth both (formula_tree f) (tree_of_all fs) (formula_reduced f h.0) (all_reduced fs h.1) w x
    ∙ both_and (tree_holds (formula_tree f) w x) (tree_holds (tree_of_all fs) w x)
    ∙ ap (λ b. b && tree_holds (tree_of_all fs) w x) (comparison_tree c w x g.0)
    ∙ ap (λ b. comparison_holds (value_of w x) c && b) (all_truth cs w x h.1 g.1)

path_truth : (cs : List Comparison) (w : WorldFields) (x : List ℕ) → IsFormula (path_formula (map printed_form cs)) → Each GoodComparison cs
    → tree_holds (formula_tree (path_formula (map printed_form cs))) w x ≡ list_all (comparison_holds (value_of w x)) cs
path_truth [] w x h g = refl
path_truth (c ∷ []) w x h g = comparison_tree c w x g.0 ∙ and_true (comparison_holds (value_of w x) c)
path_truth (c ∷ d ∷ cs) w x h g = all_truth (c ∷ d ∷ cs) w x h g

any_truth : (ps : List (List Step)) (w : WorldFields) (x : List ℕ) → AreFormulas (formulas_of (map path_formula (map printed_path ps))) → Each (λ p. GoodRow (path_comparisons p)) ps
    → tree_holds (tree_of_any (formulas_of (map path_formula (map printed_path ps)))) w x ≡ some_path_holds (value_of w x) ps
any_truth [] w x h g = refl
any_truth (p ∷ ps) w x h g =
    let f = path_formula (printed_path p) in
    let fs = formulas_of (map path_formula (map printed_path ps)) in
    operations.join_truth either (formula_tree f) (tree_of_any fs) (formula_reduced f h.0) (any_reduced fs h.1) w x
    ∙ either_or (tree_holds (formula_tree f) w x) (tree_holds (tree_of_any fs) w x)
    ∙ ap (λ b. b || tree_holds (tree_of_any fs) w x) (path_truth (path_comparisons p) w x h.0 (g.0).1)
    ∙ ap (λ b. path_holds (value_of w x) p || b) (any_truth ps w x h.1 g.1)

paths_tree : (ps : List (List Step)) (w : WorldFields) (x : List ℕ) → IsFormula (paths_formula (map printed_path ps)) → Each (λ p. GoodRow (path_comparisons p)) ps
    → tree_holds (formula_tree (paths_formula (map printed_path ps))) w x ≡ some_path_holds (value_of w x) ps
paths_tree [] w x h g = refl
paths_tree (p ∷ []) w x h g = path_truth (path_comparisons p) w x h ((g.0).1) ∙ or_false (path_holds (value_of w x) p)
paths_tree (p ∷ q ∷ ps) w x h g = any_truth (p ∷ q ∷ ps) w x h g

-- ---- the tree of a text is the tree

node_tree : (l : List ℕ) (d : Plain) (bs : Branches) → IsReduced (node l d bs) → formula_tree (paths_formula (printed_paths (node l d bs))) ≡ node l d bs
node_tree l d bs h =
    let t = node l d bs in
    let f = paths_formula (printed_paths t) in
    let is = printed-formula (marker_text t) f (node_reads l d bs h) in
    one_truth_one_tree (formula_tree f) t (formula_reduced f is) h
    (λ w x iw ia ie. paths_tree (paths_to_true t) w x is (node_paths l d bs h).rows ∙ sym (paths_truth t h w x))

-- a reduced tree that isn't the same truth everywhere, asks for no extra, and has few enough nodes on each path, is
-- read back
pub tree_is_marker : (t : Plain) → IsReduced t → asks_extra t ≡ false → IsNoTruth t → is_readable t ≡ true → IsMarker t
unfolding marker_of_text
tree_is_marker (truth b) h e n r = absurd (n b refl)
tree_is_marker (node l d bs) h e n r =
    let t = node l d bs in
    ap (λ o. o >>= λ f. tree_with_text (marker_text t) (formula_tree f)) (node_reads l d bs h)
    ∙ ap (tree_with_text (marker_text t)) (node_tree l d bs h)
    ∙ ap (λ b. if not b && is_readable t then (if bytes_eq (marker_text t) (marker_text t) then Some t else None) else None) e
    ∙ ap (λ b. if b then (if bytes_eq (marker_text t) (marker_text t) then Some t else None) else None) r
    ∙ ap (λ b. if b then Some t else None) (bytes_self (marker_text t))

-- two reduced trees with one text are one
pub nodes_one : (s t : Plain) → IsReduced s → IsReduced t → IsNoTruth s → IsNoTruth t → marker_text s ≡ marker_text t → s ≡ t
nodes_one s t hs ht ns nt e =
    let a = text_reads s hs ns in
    let b = text_reads t ht nt in
    let same : Some a.formula ≡ Some b.formula = sym a.read ∙ ap printed_marker_of e ∙ b.read in
    let one : a.formula ≡ b.formula = cc in
    one_truth_one_tree s t hs ht (λ w x iw ia ie. sym (a.truth w x iw) ∙ ap (λ f. marker_holds f w x) one ∙ b.truth w x iw)

star_none : printed_marker_of (codes "*") ≡ None
unfolding printed_marker_of tokens_of tokens_in front_token front_word word_token
star_none = refl

star_text : marker_text (truth true) ≡ codes "*"
unfolding marker_text
star_text = refl

star_no_node : (t : Plain) → IsReduced t → IsNoTruth t → marker_text t ≡ codes "*" → ⊥
star_no_node t h n e = let a = text_reads t h n in let p : None ≡ Some a.formula = sym star_none ∙ ap printed_marker_of (sym e) ∙ a.read in cc

node_no_truth : (l : List ℕ) (d : Plain) (bs : Branches) → IsNoTruth (node l d bs)
node_no_truth l d bs b e = cc

pub one_text : (s t : Plain) → IsReduced s → IsReduced t → s ≢ truth false → t ≢ truth false → marker_text s ≡ marker_text t → s ≡ t
one_text (truth false) t hs ht fs ft e = absurd (fs refl)
one_text s (truth false) hs ht fs ft e = absurd (ft refl)
one_text (truth true) (truth true) hs ht fs ft e = refl
one_text (truth true) (node l d bs) hs ht fs ft e = absurd (star_no_node (node l d bs) ht (node_no_truth l d bs) (sym e ∙ star_text))
one_text (node l d bs) (truth true) hs ht fs ft e = absurd (star_no_node (node l d bs) hs (node_no_truth l d bs) (e ∙ star_text))
one_text (node l d bs) (node m c cs) hs ht fs ft e = nodes_one (node l d bs) (node m c cs) hs ht (node_no_truth l d bs) (node_no_truth m c cs) e

-- `*` is the text of the true tree alone
pub star_is_true : (t : Plain) → IsReduced t → t ≢ truth false → marker_text t ≡ 42 ∷ [] → t ≡ truth true
star_is_true t h f e = one_text t (truth true) h tt f (λ q. cc) (e ∙ sym star_text)

-- ---- what is read of a text

-- a tree with a text: a region that may be read
record HasText (b : List ℕ) (s t : Plain) : Type 0 where
  same : s ≡ t
  region : is_region t ≡ true
  readable : is_readable t ≡ true
  spelled : marker_text t ≡ b

with_text : (b : List ℕ) (s t : Plain) → tree_with_text b s ≡ Some t → HasText b s t
with_text b s t e = go (is_region s) (is_readable s) (bytes_eq (marker_text s) b) refl refl refl e
  where
    go : (x y z : Bool) → is_region s ≡ x → is_readable s ≡ y → bytes_eq (marker_text s) b ≡ z → (if x && y then (if z then Some s else None) else None) ≡ Some t → HasText b s t
    go true true true p d q e =
        let same : s ≡ t = cc in
        record {
          same = same;
          region = subst (λ (z : Plain). is_region z ≡ true) same p;
          readable = subst (λ (z : Plain). is_readable z ≡ true) same d;
          spelled = subst (λ (z : Plain). marker_text z ≡ b) same ((bytes_eq-Decides (marker_text s) b).0 q);
        }
    go true true false p d q e = absurd cc
    go true false z p d q e = absurd cc
    go false y z p d q e = absurd cc

-- a tree that is read of a text: reduced, a region that may be read, with this text
pub record IsReadOf (b : List ℕ) (t : Plain) : Type 0 where
  pub reduced : IsReduced t
  pub region : is_region t ≡ true
  pub readable : is_readable t ≡ true
  pub spelled : marker_text t ≡ b

pub read_is : (b : List ℕ) (t : Plain) → marker_of_text b ≡ Some t → IsReadOf b t
unfolding marker_of_text
read_is b t e = go (printed_marker_of b) refl e
  where
    go : (o : Option Formula) → printed_marker_of b ≡ o → (o >>= λ f. tree_with_text b (formula_tree f)) ≡ Some t → IsReadOf b t
    go None p e = absurd cc
    go (Some f) p e =
        let w = with_text b (formula_tree f) t e in
        record { reduced = subst (λ (z : Plain). IsReduced z) w.same (formula_reduced f (printed-formula b f p)); region = w.region; readable = w.readable; spelled = w.spelled }

pub text_again : (b : List ℕ) (t : Plain) → marker_of_text b ≡ Some t → marker_text t ≡ b
text_again b t e = (read_is b t e).spelled

pub read_is_marker : (b : List ℕ) (t : Plain) → marker_of_text b ≡ Some t → IsMarker t
read_is_marker b t e = ap marker_of_text (text_again b t e) ∙ e

pub marker_reduced : (t : Plain) → IsMarker t → IsReduced t
marker_reduced t h = (read_is (marker_text t) t h).reduced

pub marker_region : (t : Plain) → IsMarker t → is_region t ≡ true
marker_region t h = (read_is (marker_text t) t h).region

pub marker_readable : (t : Plain) → IsMarker t → is_readable t ≡ true
marker_readable t h = (read_is (marker_text t) t h).readable

pub truth_is_none : (v : Bool) → IsMarker (truth v) → ⊥
truth_is_none v h = let p : false ≡ true = marker_region (truth v) h in cc

pub region_no_extra : (t : Plain) → is_region t ≡ true → asks_extra t ≡ false
region_no_extra (truth b) e = refl
region_no_extra (node l d bs) e = go (asks_extra (node l d bs)) e
  where
    go : (b : Bool) → not b ≡ true → b ≡ false
    go true e = absurd cc
    go false e = refl

pub marker_no_extra : (t : Plain) → IsMarker t → asks_extra t ≡ false
marker_no_extra t h = region_no_extra t (marker_region t h)

pub region_no_truth : (t : Plain) → is_region t ≡ true → IsNoTruth t
region_no_truth (truth b) e v q = let p : false ≡ true = e in cc
region_no_truth (node l d bs) e v q = cc

pub star_is_none : marker_of_text (42 ∷ []) ≡ None
unfolding marker_of_text
star_is_none = ap (λ o. o >>= λ f. tree_with_text (42 ∷ []) (formula_tree f)) star_none

-- a reduced region that may be read and has this text is what is read
pub region_read : (b : List ℕ) (t : Plain) → IsReduced t → is_region t ≡ true → is_readable t ≡ true → marker_text t ≡ b → marker_of_text b ≡ Some t
region_read b t h e d s = ap marker_of_text (sym s) ∙ tree_is_marker t h (region_no_extra t e) (region_no_truth t e) d

pub marker_texts : MarkerTexts
marker_texts = record { one = one_text; marker = text_reads; back = λ t h n e r. tree_is_marker t h e n r }
