-- What is printed behind a text.
use Rattle.std.proofs.Common.{◌≡◌, ◌≢◌, ℕ, ◌^◌, List, [], ◌∷◌, ◌++◌, map, Bool, true, false, eqb, refl, ap, sym, ◌∙◌, subst, Option, Some, None, if◌then◌else◌}
use Rattle.std.specs.Prelude.{codes, option_map}
use Rattle.std.proofs.lemmas.Bool.{eqb-true}
use Rattle.std.proofs.lemmas.List.{map-append}
use Rattle.ul_comparison.specs.Printed.{comparison_text}
use Rattle.ul_nodes.specs.Plain.{Plain, truth, node, Branches, done, branch, carries}
use Rattle.ul_nodes.specs.Apply.{keys, leaf_truth}
use Rattle.ul_tree.specs.FirstParts.{is_false}
use Rattle.ul_nodes.specs.declared.level.Level.{Level}
use Rattle.ul_nodes.specs.declared.level.Key.{Key}
use Rattle.ul_nodes.specs.Keys.{level_view, is_key_of, has_kind, top_of, rest_of, branches_of}
use Rattle.ul_nodes.specs.Levels.{python_level}
use Rattle.ul_tree.specs.PathList.{Step, interval, point, others, longer_paths, paths_to_true, paths_from, paths_at}
use Rattle.ul_tree.specs.Comparisons.{Comparison, at_least, below, lower, upper, comparisons_of, path_comparisons}
use Rattle.ul_tree.proofs.ForCallers.{is_python}
use Rattle.ul_marker_text.specs.MarkerText.{printed_form, key_comparison}
use Rattle.ul_marker_text.specs.Printing.{separated_text, joined_onto, and_joined, path_behind, paths_behind, others_joined, IsAdded}

joined_append : (separator before : List ℕ) (xs ys : List (List ℕ)) → joined_onto separator before (xs ++ ys) ≡ joined_onto separator (joined_onto separator before xs) ys
joined_append separator before [] ys = refl
joined_append separator before (x ∷ xs) ys = joined_append separator (separated_text separator before x) xs ys

-- comparisons behind others, in two parts
pub and_append : (before : List ℕ) (cs ds : List Comparison) → and_joined before (cs ++ ds) ≡ and_joined (and_joined before cs) ds
and_append before cs ds =
    let said : Comparison → List ℕ = λ c. comparison_text (printed_form c) in
    ap (joined_onto (codes " and ") before) (map-append said cs ds) ∙ joined_append (codes " and ") before (map said cs) (map said ds)

pub behind_none : (before prefix : List ℕ) → paths_behind before prefix [] ≡ before
unfolding paths_behind
behind_none before prefix = refl

pub behind_one : (before prefix : List ℕ) → paths_behind before prefix ([] ∷ []) ≡ separated_text (codes " or ") before prefix
unfolding paths_behind
behind_one before prefix = refl

pub behind_append : (before prefix : List ℕ) (ps qs : List (List Step)) → paths_behind before prefix (ps ++ qs) ≡ paths_behind (paths_behind before prefix ps) prefix qs
unfolding paths_behind
behind_append before prefix ps qs =
    ap (joined_onto (codes " or ") before) (map-append (path_behind prefix) ps qs) ∙ joined_append (codes " or ") before (map (path_behind prefix) ps) (map (path_behind prefix) qs)

led_texts : (prefix : List ℕ) (s : Step) (ps : List (List Step)) → map (path_behind prefix) (longer_paths s ps) ≡ map (path_behind (and_joined prefix (comparisons_of s))) ps
led_texts prefix s [] = refl
led_texts prefix s (p ∷ ps) =
    ap (λ z. z ∷ map (path_behind prefix) (longer_paths s ps)) (and_append prefix (comparisons_of s) (path_comparisons p))
    ∙ ap (λ z. path_behind (and_joined prefix (comparisons_of s)) p ∷ z) (led_texts prefix s ps)

pub behind_led : (before prefix : List ℕ) (s : Step) (ps : List (List Step)) → paths_behind before prefix (longer_paths s ps) ≡ paths_behind before (and_joined prefix (comparisons_of s)) ps
unfolding paths_behind
behind_led before prefix s ps = ap (joined_onto (codes " or ") before) (led_texts prefix s ps)

-- ---- bounds of the interpreter

-- where a piece starts is written behind a path's comparisons
pub lower_joined : (before after : List ℕ) (n : ℕ) → n ≢ 0 → IsAdded before (printed_form (at_least n)) after → after ≡ and_joined before (lower n)
lower_joined before after n h e = go (eqb n 0) refl
  where
    go : (b : Bool) → eqb n 0 ≡ b → after ≡ and_joined before (if b then [] else at_least n ∷ [])
    go true q = absurd (h (eqb-true n 0 q))
    go false q = e

-- where a piece ends
pub upper_joined : (before after : List ℕ) (n : ℕ) → n ≢ 2 ^ 96 → IsAdded before (printed_form (below n)) after → after ≡ and_joined before (upper n)
upper_joined before after n h e = go (eqb n (2 ^ 96)) refl
  where
    go : (b : Bool) → eqb n (2 ^ 96) ≡ b → after ≡ and_joined before (if b then [] else below n ∷ [])
    go true q = absurd (h (eqb-true n (2 ^ 96) q))
    go false q = e

-- ---- trees

-- a false tree has no path
pub false_behind : (before prefix : List ℕ) (s : Step) (t : Plain) → is_false t ≡ true → before ≡ paths_behind before prefix (longer_paths s (paths_to_true t))
false_behind before prefix s (truth false) h = sym (behind_none before prefix)
false_behind before prefix s (truth true) h = absurd cc
false_behind before prefix s (node l d bs) h = absurd cc

pub truth_behind : (before prefix : List ℕ) (t : Plain) → top_of t ≡ None → leaf_truth t ≡ true → separated_text (codes " or ") before prefix ≡ paths_behind before prefix (paths_to_true t)
truth_behind before prefix (truth true) h k = sym (behind_one before prefix)
truth_behind before prefix (truth false) h k = absurd cc
truth_behind before prefix (node l d bs) h k = absurd cc

pub untrue_behind : (before prefix : List ℕ) (t : Plain) → top_of t ≡ None → leaf_truth t ≡ false → before ≡ paths_behind before prefix (paths_to_true t)
untrue_behind before prefix (truth true) h k = absurd cc
untrue_behind before prefix (truth false) h k = sym (behind_none before prefix)
untrue_behind before prefix (node l d bs) h k = absurd cc

-- the paths of a node of points
pub points_paths : (t : Plain) (l : List ℕ) → top_of t ≡ Some l → carries l ≡ false → paths_to_true t ≡ paths_at l (branches_of t) ++ longer_paths (others l (keys (branches_of t))) (paths_to_true (rest_of t))
points_paths (truth b) l h e = absurd cc
points_paths (node k d bs) l h e =
    let q : k ≡ l = cc in
    subst (λ (z : List ℕ). paths_to_true (node k d bs) ≡ paths_at z bs ++ longer_paths (others z (keys bs)) (paths_to_true d)) q
    (ap (λ b. if b then paths_from 0 (paths_to_true d) bs else paths_at k bs ++ longer_paths (others k (keys bs)) (paths_to_true d)) (ap carries q ∙ e))

-- the paths of a node of the interpreter
pub pieces_paths : (t : Plain) → top_of t ≡ Some python_level → paths_to_true t ≡ paths_from 0 (paths_to_true (rest_of t)) (branches_of t)
pieces_paths (truth b) h = absurd cc
pieces_paths (node k d bs) h =
    let q : k ≡ python_level = cc in
    ap (λ b. if b then paths_from 0 (paths_to_true d) bs else paths_at k bs ++ longer_paths (others k (keys bs)) (paths_to_true d)) (ap carries q)

pub key_kind : (t : Plain) (l : List ℕ) (k : Key) → top_of t ≡ Some l → is_key_of t k ≡ true → has_kind l k ≡ true
key_kind (truth b) l k h e = absurd cc
key_kind (node m d bs) l k h e = let q : m ≡ l = cc in subst (λ (z : List ℕ). has_kind z k ≡ true) q e

-- ---- steps of printing

pub piece_behind : (before prefix copied low high : List ℕ) (start end : ℕ) (ps : List (List Step)) → copied ≡ prefix → low ≡ and_joined copied (lower start) → high ≡ and_joined low (upper end)
    → paths_behind before high ps ≡ paths_behind before prefix (longer_paths (interval start end) ps)
piece_behind before prefix copied low high start end ps x y z =
    ap (λ w. paths_behind before w ps)
    (z ∙ ap (λ w. and_joined w (upper end)) (y ∙ ap (λ w. and_joined w (lower start)) x)
    ∙ sym (and_append prefix (lower start) (upper end)))
    ∙ sym (behind_led before prefix (interval start end) ps)

pub point_behind : (before prefix copied next l k : List ℕ) (ps : List (List Step)) → copied ≡ prefix → IsAdded copied (key_comparison true l k) next
    → paths_behind before next ps ≡ paths_behind before prefix (longer_paths (point l k) ps)
point_behind before prefix copied next l k ps x y =
    ap (λ w. paths_behind before w ps) (y ∙ ap (λ w. separated_text (codes " and ") w (comparison_text (key_comparison true l k))) x) ∙ sym (behind_led before prefix (point l k) ps)

pub others_step : (l k : List ℕ) (c : Plain) (before next : List ℕ) (bs rest : Branches) → bs ≡ branch k c rest → IsAdded before (key_comparison false l k) next
    → others_joined l next (keys rest) ≡ others_joined l before (keys bs)
others_step l k c before next bs rest x y = ap (λ w. others_joined l w (keys rest)) y ∙ ap (λ z. others_joined l before (keys z)) (sym x)

pub others_done : (l before : List ℕ) (bs : Branches) → bs ≡ done → before ≡ others_joined l before (keys bs)
others_done l before bs e = ap (λ z. others_joined l before (keys z)) (sym e)

pub other_behind : (before prefix next l : List ℕ) (bs : Branches) (ps : List (List Step)) → next ≡ others_joined l prefix (keys bs) → paths_behind before next ps ≡ paths_behind before prefix (longer_paths (others l (keys bs)) ps)
other_behind before prefix next l bs ps x = ap (λ w. paths_behind before w ps) x ∙ sym (behind_led before prefix (others l (keys bs)) ps)

-- a point more
pub points_step : (l k : List ℕ) (c : Plain) (before next prefix : List ℕ) (bs rest : Branches) → bs ≡ branch k c rest → next ≡ paths_behind before prefix (longer_paths (point l k) (paths_to_true c))
    → paths_behind next prefix (paths_at l rest) ≡ paths_behind before prefix (paths_at l bs)
points_step l k c before next prefix bs rest x y =
    ap (λ w. paths_behind w prefix (paths_at l rest)) y ∙ sym (behind_append before prefix (longer_paths (point l k) (paths_to_true c)) (paths_at l rest)) ∙ ap (λ w. paths_behind before prefix (paths_at l w)) (sym x)

pub points_done : (l before prefix : List ℕ) (bs : Branches) → bs ≡ done → before ≡ paths_behind before prefix (paths_at l bs)
points_done l before prefix bs e = sym (behind_none before prefix) ∙ ap (λ w. paths_behind before prefix (paths_at l w)) (sym e)

-- the points, then the other part
pub node_behind : (start before last prefix l : List ℕ) (t : Plain) → top_of t ≡ Some l → carries l ≡ false → before ≡ paths_behind start prefix (paths_at l (branches_of t))
    → last ≡ paths_behind before prefix (longer_paths (others l (keys (branches_of t))) (paths_to_true (rest_of t))) → last ≡ paths_behind start prefix (paths_to_true t)
node_behind start before last prefix l t h e x y =
    y ∙ ap (λ w. paths_behind w prefix (longer_paths (others l (keys (branches_of t))) (paths_to_true (rest_of t)))) x
    ∙ sym (behind_append start prefix (paths_at l (branches_of t)) (longer_paths (others l (keys (branches_of t))) (paths_to_true (rest_of t))))
    ∙ ap (paths_behind start prefix) (sym (points_paths t l h e))

-- a piece more
pub pieces_step : (k : List ℕ) (c d : Plain) (start end : ℕ) (before next prefix : List ℕ) (bs rest : Branches) → bs ≡ branch k c rest → k ≡ end ∷ []
    → next ≡ paths_behind before prefix (longer_paths (interval start end) (paths_to_true d))
    → paths_behind next prefix (paths_from end (paths_to_true c) rest) ≡ paths_behind before prefix (paths_from start (paths_to_true d) bs)
pieces_step k c d start end before next prefix bs rest x q y =
    ap (λ w. paths_behind w prefix (paths_from end (paths_to_true c) rest)) y
    ∙ sym (behind_append before prefix (longer_paths (interval start end) (paths_to_true d)) (paths_from end (paths_to_true c) rest))
    ∙ ap (λ w. paths_behind before prefix (paths_from start (paths_to_true d) (branch w c rest))) (sym q)
    ∙ ap (λ w. paths_behind before prefix (paths_from start (paths_to_true d) w)) (sym x)

pub pieces_done : (d : Plain) (start : ℕ) (before last prefix : List ℕ) (bs : Branches) → bs ≡ done → last ≡ paths_behind before prefix (longer_paths (interval start (2 ^ 96)) (paths_to_true d))
    → last ≡ paths_behind before prefix (paths_from start (paths_to_true d) bs)
pieces_done d start before last prefix bs x y = y ∙ ap (λ w. paths_behind before prefix (paths_from start (paths_to_true d) w)) (sym x)

pub python_top : (r : Option Level) (l : Level) (t : Plain) → r ≡ Some l → option_map level_view r ≡ top_of t → carries (level_view l) ≡ true → top_of t ≡ Some python_level
python_top r l t q h e = sym h ∙ ap (option_map level_view) q ∙ ap Some (is_python (level_view l) e)
